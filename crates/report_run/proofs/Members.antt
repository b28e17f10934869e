-- The members of an object, group by group.
use Rattle.std.proofs.Common.{◌≡◌, ◌<◌, List, [], ◌∷◌, ◌++◌, ℕ, length, length-append, refl, sym, ap, ◌∙◌, append_assoc, arith}
use Rattle.std.specs.Prelude.{codes}
use Rattle.report_run.specs.Json.{members_text}
use Rattle.report_run.specs.kept.Members.{before}

-- a member before others
one_more : (m : List ℕ) (ms : List (List ℕ)) → 0 < length ms → m ++ (codes "," ++ members_text ms) ≡ members_text (m ∷ ms)
one_more m [] some = absurd (omega (arith, some))
one_more m (n ∷ ns) some = refl

more : (ms ns : List (List ℕ)) → 0 < length ns → 0 < length (ms ++ ns)
more ms ns some = simp length-append (omega (arith, some))

-- members before others, and what comes after the object
members_then : (ms ns : List (List ℕ)) (rest : List ℕ) → 0 < length ns → before ms ++ (members_text ns ++ rest) ≡ members_text (ms ++ ns) ++ rest
members_then [] ns rest some = refl
members_then (m ∷ ms) ns rest some =
    append_assoc m (codes "," ++ before ms) (members_text ns ++ rest)
    ∙ ap (λ t. m ++ (codes "," ++ t)) (members_then ms ns rest some)
    ∙ sym (append_assoc m (codes "," ++ members_text (ms ++ ns)) rest)
    ∙ ap (λ t. t ++ rest) (one_more m (ms ++ ns) (more ms ns some))

-- five groups of members before others
pub all_members : (a b c d e ms : List (List ℕ)) (rest : List ℕ) → 0 < length ms
    → before a ++ (before b ++ (before c ++ (before d ++ (before e ++ (members_text ms ++ rest))))) ≡ members_text (a ++ (b ++ (c ++ (d ++ (e ++ ms))))) ++ rest
all_members a b c d e ms rest some =
    let filled_e = more e ms some in
    let filled_d = more d (e ++ ms) filled_e in
    let filled_c = more c (d ++ (e ++ ms)) filled_d in
    let filled_b = more b (c ++ (d ++ (e ++ ms))) filled_c in
    let from_e = members_then e ms rest some in
    let from_d = ap (λ t. before d ++ t) from_e ∙ members_then d (e ++ ms) rest filled_e in
    let from_c = ap (λ t. before c ++ t) from_d ∙ members_then c (d ++ (e ++ ms)) rest filled_d in
    let from_b = ap (λ t. before b ++ t) from_c ∙ members_then b (c ++ (d ++ (e ++ ms))) rest filled_c in
    ap (λ t. before a ++ t) from_b ∙ members_then a (b ++ (c ++ (d ++ (e ++ ms)))) rest filled_b
