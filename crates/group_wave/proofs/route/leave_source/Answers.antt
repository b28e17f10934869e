use Rattle.std.proofs.Common.{◌≡◌, ◌∙◌, [], sym}
use Rattle.std.specs.Prelude.{OnOk}
use Rattle.std.proofs.lemmas.List.{nil_from_length}
use Rattle.route_tree.specs.Rows.{pairs_of}
use Rattle.group_wave.specs.kept.Wave.{IsComplete}
use Rattle.group_wave.specs.kept.Steps.{NoOrigins}
use Rattle.group_wave.proofs.Starts.{on_ok_two}
use Rattle.group_wave.proofs.route.leave_source.Goals as goal

pub returns-then-pairs-eq0 : goal.returns-then-pairs-eq0
returns-then-pairs-eq0 g c =
    let none : pairs_of c.args.tree.now ≡ [] = nil_from_length (pairs_of c.args.tree.now) (sym c.pairs.ensures.count ∙ c.if-pairs-eq0.true) in
    let both : OnOk c.begin.result (IsComplete c.args.ground.now c.begin.new.self × NoOrigins c.begin.new.self) = on_ok_two c.begin.result (λ complete origins. (complete, origins)) c.begin.ensures.complete c.begin.ensures.origins in
    on_ok_two c.begin.result (λ wave rest. record {
      wave = wave;
      complete = rest.0;
      origins = λ v. (λ o. absurd (rest.1 v o), λ h. absurd (h.1 none));
    }) c.begin.ensures.wave both
