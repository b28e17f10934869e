use Rattle.std.proofs.Common.{◌≡◌, ℕ, ◌+◌, List, Option, Some, sym, ap, ◌∙◌, arith}
use Rattle.std.specs.Prelude.{◌==◌}
use Rattle.std.specs.List.{position}
use Rattle.node_numbers.specs.Numbering.{block_numbers}
use Rattle.node_numbers.proofs.NumbersAtPlaces.{found_at, some_at_block, none_at_block}
use Rattle.node_numbers.proofs.PlaceStarts.{few_numbers}
use Rattle.node_numbers.proofs.numbers.NodeNumbers.id_at_block.Goals as goal

answer : (n : ℕ) (xs ys : List ℕ) (r o : Option ℕ) → xs ≡ ys → r ≡ position (λ m. m == n) xs → r ≡ o → position (λ m. m == n) ys ≡ o
answer n xs ys r o e h s = ap (position (λ m. m == n)) (sym e) ∙ sym h ∙ s

pub overflow_cast-result : goal.overflow_cast-result
overflow_cast-result c =
    let f = c.args.self.now in
    let e = answer c.args.number c.numbers.result.now (block_numbers f c.args.kind) c.position_of.result _ c.numbers.ensures.numbers c.position_of.ensures c.in-Some.is in
    omega (arith, (found_at (block_numbers f c.args.kind) c.in-Some.index c.args.number e).1, few_numbers f c.args.kind c.numbers.ensures.limits)

pub overflow_add-result : goal.overflow_add-result
overflow_add-result c =
    let f = c.args.self.now in
    let e = answer c.args.number c.numbers.result.now (block_numbers f c.args.kind) c.position_of.result _ c.numbers.ensures.numbers c.position_of.ensures c.in-Some.is in
    omega (arith, c.terminal_start.ensures.few, (found_at (block_numbers f c.args.kind) c.in-Some.index c.args.number e).1, few_numbers f c.args.kind c.numbers.ensures.limits)

pub returns-in-None : goal.returns-in-None
returns-in-None c =
    let f = c.args.self.now in
    let e = answer c.args.number c.numbers.result.now (block_numbers f c.args.kind) c.position_of.result _ c.numbers.ensures.numbers c.position_of.ensures c.in-None.is in
    sym (none_at_block f c.args.kind c.args.x c.args.y c.args.number c.requires.terminal c.requires.block e)

pub returns-in-Some : goal.returns-in-Some
returns-in-Some c =
    let f = c.args.self.now in
    let e = answer c.args.number c.numbers.result.now (block_numbers f c.args.kind) c.position_of.result _ c.numbers.ensures.numbers c.position_of.ensures c.in-Some.is in
    ap (λ s. Some (s + c.in-Some.index)) c.terminal_start.ensures.start
    ∙ sym (some_at_block f c.args.kind c.args.x c.args.y c.args.number c.requires.terminal c.in-Some.index c.numbers.ensures.limits c.requires.block e)
