use Rattle.std.proofs.Common.{◌≡◌, [], ◌∷◌, ◌++◌, sym, ap, ◌∙◌, true, false}
use Rattle.net_file.specs.kept.NameNumbers.{names_in}
use Rattle.net_file.specs.Names.{is_among}
use Rattle.net_file.proofs.Numbered.{numbered_push, numbered_still, names_pushed, kept}
use Rattle.net_file.proofs.names.Names.add.Goals as goal

pub invariant_of-self-then-not-has : goal.invariant_of-self-then-not-has
invariant_of-self-then-not-has c =
    let refs = c.self.inside.list.items in
    let absent : is_among (names_in refs) c.args.name.now ≡ false = ap (λ names. is_among names c.args.name.now) c.self.view_is ∙ sym c.has.ensures ∙ c.if-not-has.true in
    let more : c.push.new.self.items ≡ c.reserve.new.self.items ++ c.args.name ∷ [] = rw c.unwrap.ensures at c.push.ensures.items in
    numbered_push refs c.push.new.self.items c.args.name c.self.inside.numbers c.insert.new.self c.len-number.result c.self.invariant absent c.in_ok-insert.ensures.updates (c.len-number.ensures ∙ c.self.inside.list.ok.0) (more ∙ ap (λ xs. xs ++ c.args.name ∷ []) c.reserve.ensures.items)

pub invariant_of-self-in_err-insert : goal.invariant_of-self-in_err-insert
invariant_of-self-in_err-insert c = numbered_still c.self.inside.list.items c.reserve.new.self.items c.self.inside.numbers c.insert.new.self c.reserve.ensures.items c.in_err-insert.ensures.err c.self.invariant

pub returns-in_ok-insert : goal.returns-in_ok-insert
returns-in_ok-insert c =
    let new : is_among c.args.self.now c.args.name.now ≡ false = sym c.has.ensures ∙ c.if-not-has.true in
    let more : c.push.new.self.items ≡ c.reserve.new.self.items ++ c.args.name ∷ [] = rw c.unwrap.ensures at c.push.ensures.items in
    names_pushed c.args.self.now c.self.inside.list.items c.push.new.self.items c.args.name c.self.view_is (more ∙ ap (λ xs. xs ++ c.args.name ∷ []) c.reserve.ensures.items) new

pub returns-else-not-has : goal.returns-else-not-has
returns-else-not-has c =
    let old : is_among c.args.self.now c.args.name.now ≡ true = sym c.has.ensures ∙ c.if-not-has.false in
    sym (kept c.args.self.now c.args.name.now old)
