-- What accepted lines keep: the limits of nets and blocks.
use Rattle.std.proofs.Common.{◌≡◌, ℕ, ◌≤◌, Bool, true, false, ◌||◌, List, [], ◌∷◌, ◌++◌, length, None, refl, sym, subst, arith}
use Rattle.std.proofs.lemmas.Bool.{ltb-false}
use Rattle.std.proofs.lemmas.List.{append-nil, append_assoc, length-map}
use Rattle.vpr_text.specs.Words.{Line}
use Rattle.net_file.specs.Judge.{first_fault, is_bad_line, is_bad_count, is_double, are_too_many, fault_of_next}
use Rattle.net_file.specs.Lines.{block_names, net_names, opened, latest}
use Rattle.net_file.specs.Reads.{AreAccepted}
use Rattle.std.proofs.lemmas.List.FromFn.{length-map-range_with_len}
use Rattle.net_file.specs.declared.connection.Connection.{Connection}
use Rattle.net_file.specs.Blocks.{block_at, blocks_of, pinlists}
use Rattle.net_file.specs.Reading.{net_at, nets_of}
use Rattle.net_file.proofs.BlockCount.{few_pinlists}

none_too_many : (c d e t : Bool) → first_fault c d e t ≡ None → t ≡ false
none_too_many true d e t h = absurd cc
none_too_many false true e t h = absurd cc
none_too_many false false true t h = absurd cc
none_too_many false false false true h = absurd cc
none_too_many false false false false h = refl

second_false : (a b : Bool) → (a || b) ≡ false → b ≡ false
second_false true b h = absurd cc
second_false false b h = h

-- a line without a fault leaves no more nets than there may be
few_after : (pins : ℕ) (before : List Line) (l : Line) → fault_of_next pins before l ≡ None → length (net_names (before ++ l ∷ [])) ≤ 65535
unfolding fault_of_next are_too_many
few_after pins before l h =
    let fits = none_too_many (is_bad_line (opened before) (latest before) l.words) (is_bad_count pins (opened before) l.words) (is_double (block_names before) l.words) _ h in
    ltb-false 65535 (length (net_names (before ++ l ∷ []))) (second_false _ _ fits)

few_nets_from : (pins : ℕ) (before ls : List Line) → length (net_names before) ≤ 65535 → AreAccepted pins before ls → length (net_names (before ++ ls)) ≤ 65535
few_nets_from pins before [] few h = subst (λ front. length (net_names front) ≤ 65535) (sym (append-nil before)) few
few_nets_from pins before (l ∷ ls) few h =
    subst (λ front. length (net_names front) ≤ 65535) (append_assoc before (l ∷ []) ls) (few_nets_from pins (before ++ l ∷ []) ls (few_after pins before l h.0) h.1)

none_first : length (net_names []) ≤ 65535
unfolding net_names
none_first = omega arith

-- lines of which none is faulty name at most 65,535 nets, and have at most 20,000 blocks
pub few_accepted_nets : (pins : ℕ) (ls : List Line) → AreAccepted pins [] ls → length (net_names ls) ≤ 65535
few_accepted_nets pins ls h = few_nets_from pins [] ls none_first h

pub few_accepted_blocks : (pins : ℕ) (names : List (List ℕ)) (ls : List Line) → AreAccepted pins [] ls → length (blocks_of names ls) ≤ 20000
unfolding blocks_of
few_accepted_blocks pins names ls h = subst (λ n. n ≤ 20000) (sym (length-map (pinlists ls) (block_at names ls))) (few_pinlists pins ls h)

pub all_nets : (nets globals : List (List ℕ)) (rows : List (List Connection)) → length (nets_of nets globals rows) ≡ length nets
unfolding nets_of
all_nets nets globals rows = length-map-range_with_len (net_at nets globals rows) 0 (length nets)
