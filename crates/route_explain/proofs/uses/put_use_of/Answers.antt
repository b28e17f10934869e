use Rattle.std.proofs.Common.{◌≡◌, true, subst, ◌∙◌}
use Rattle.std.specs.Prelude.{IfSome}
use Rattle.route_report.specs.Covered.{uses_of}
use Rattle.route_report.specs.Overused.{is_over}
use Rattle.route_explain.proofs.uses.put_use_of.Goals as goal

pub is_user-covers-requires : goal.is_user-covers-requires
is_user-covers-requires g c = rw (c.deref.ensures.value, c.deref-in-Some.ensures.value) c.requires.found.nodes

pub returns-in-Some : goal.returns-in-Some
returns-in-Some g c =
    let p = c.args.file.now.problem.now in
    let lists = c.args.file.now.routing.now in
    let over = subst (λ o. IfSome o (λ a. is_over p.device (uses_of p lists) a ≡ true)) c.in-Some.is c.requires.over in
    let covers = c.is_user-covers.ensures lists (c.deref-in-Some.ensures.value ∙ c.requires.found.overused) over in
    rw c.in-Some.is (rw covers at c.put_use.ensures)
