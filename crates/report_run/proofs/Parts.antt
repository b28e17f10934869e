-- A text of parts with a part more.
use Rattle.std.proofs.Common.{◌≡◌, ℕ, ◌+◌, ◌<◌, List, [], ◌∷◌, ◌++◌, length, take, get_or, refl, sym, ap, ◌∙◌, append_assoc}
use Rattle.std.proofs.lemmas.List.{take_more}
use Rattle.report_run.specs.declared.json_parts.Part.{Part}
use Rattle.report_run.specs.kept.Members.{part_text, parts_text}

parts_push : (ps : List Part) (p : Part) → parts_text (ps ++ p ∷ []) ≡ parts_text ps ++ part_text p
parts_push [] p = refl
parts_push (q ∷ []) p = refl
parts_push (q ∷ r ∷ ps) p =
    ap (λ t. part_text q ++ t) (parts_push (r ∷ ps) p) ∙ sym (append_assoc (part_text q) (parts_text (r ∷ ps)) (part_text p))

pub parts_more : (ps : List Part) (i : ℕ) (d : Part) → i < length ps → parts_text (take i ps) ++ part_text (get_or ps i d) ≡ parts_text (take (i + 1) ps)
parts_more ps i d l = sym (ap parts_text (take_more ps i d l) ∙ parts_push (take i ps) (get_or ps i d))
