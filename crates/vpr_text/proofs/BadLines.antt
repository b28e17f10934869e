-- The first physical line with a bad byte, byte by byte.
use Rattle.std.proofs.Common.{◌≡◌, ℕ, ◌+◌, Bool, true, false, cond, List, [], ◌∷◌, Some, None, refl, ap, ◌∙◌}
use Rattle.std.specs.Prelude.{◌||◌}
use Rattle.std.specs.List.{slice_split, onto_first, list_any, position_from}
use Rattle.std.proofs.lemmas.Bool.{eqb-true}
use Rattle.vpr_text.specs.Words.{is_line_feed}
use Rattle.vpr_text.specs.Text.{is_bad, bad_line_from}

onto_yes : (n b : ℕ) (parts : List (List ℕ)) → is_bad b ≡ true → position_from (list_any is_bad) n (onto_first b parts) ≡ Some n
onto_yes n b [] e = ap (λ (t : Bool). cond (t || false) (Some n) None) e
onto_yes n b (part ∷ parts) e = ap (λ (t : Bool). cond (t || list_any is_bad part) (Some n) (position_from (list_any is_bad) (n + 1) parts)) e

onto_no : (n b : ℕ) (parts : List (List ℕ)) → is_bad b ≡ false → position_from (list_any is_bad) n (onto_first b parts) ≡ position_from (list_any is_bad) n parts
onto_no n b [] e = ap (λ (t : Bool). cond (t || false) (Some n) None) e
onto_no n b (part ∷ parts) e = ap (λ (t : Bool). cond (t || list_any is_bad part) (Some n) (position_from (list_any is_bad) (n + 1) parts)) e

feed_step : (n b : ℕ) (bs : List ℕ) (t : Bool) → is_line_feed b ≡ t → bad_line_from n (b ∷ bs) ≡ position_from (list_any is_bad) n (cond t ([] ∷ slice_split is_line_feed bs) (onto_first b (slice_split is_line_feed bs)))
feed_step n b bs t e = ap (λ (u : Bool). position_from (list_any is_bad) n (cond u ([] ∷ slice_split is_line_feed bs) (onto_first b (slice_split is_line_feed bs)))) e

bad_is_no_feed : (b : ℕ) → is_bad b ≡ true → (t : Bool) → is_line_feed b ≡ t → t ≡ false
bad_is_no_feed b e false feed = refl
bad_is_no_feed b e true feed = absurd (let ten : b ≡ 10 = eqb-true b 10 feed in let no : is_bad b ≡ false = ap is_bad ten in cc)

pub bad_line_from-bad : (n b : ℕ) (bs : List ℕ) → is_bad b ≡ true → bad_line_from n (b ∷ bs) ≡ Some n
bad_line_from-bad n b bs e = feed_step n b bs false (bad_is_no_feed b e (is_line_feed b) refl) ∙ onto_yes n b (slice_split is_line_feed bs) e

pub bad_line_from-feed : (n b : ℕ) (bs : List ℕ) → is_line_feed b ≡ true → bad_line_from n (b ∷ bs) ≡ bad_line_from (n + 1) bs
bad_line_from-feed n b bs e = feed_step n b bs true e

pub bad_line_from-plain : (n b : ℕ) (bs : List ℕ) → is_bad b ≡ false → is_line_feed b ≡ false → bad_line_from n (b ∷ bs) ≡ bad_line_from n bs
bad_line_from-plain n b bs e feed = feed_step n b bs false feed ∙ onto_no n b (slice_split is_line_feed bs) e
