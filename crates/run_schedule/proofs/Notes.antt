-- Lines of a head that are passed one after the other.
use Rattle.std.proofs.Common.{◌≡◌, ℕ, ◌+◌, ◌<◌, List, [], ◌∷◌, ◌++◌, length, drop, get_or, None, Some, codes, refl, sym, ap, subst, ◌∙◌, append_assoc, arith}
use Rattle.std.proofs.lemmas.Bool.{false≢true}
use Rattle.std.proofs.lemmas.Grind.{flat_map-append}
use Rattle.std.proofs.lemmas.List.{append-nil, drop_all, drop_more, length_push}
use Rattle.std.proofs.lemmas.List.Elements.{All-nil, All-get_or, All-push}
use Rattle.run_schedule.specs.Lines.{AreNotes, IsInLine, line_text, notes_text}
use Rattle.run_schedule.specs.kept.Taking.{Passes}

-- so many lines were passed, of so many that are wanted
pub record PassesSome (count passed : ℕ) (old now : List ℕ) : Type 0 where
  pub found : (values : List (List ℕ)) × AreNotes passed values × (old ≡ notes_text values ++ now)
  pub only : (values : List (List ℕ)) (later : List ℕ) → AreNotes count values → old ≡ notes_text values ++ later → now ≡ notes_text (drop passed values) ++ later

note_text : List ℕ → List ℕ
note_text value = line_text (codes "# ") value

pub passes_none_yet : (count : ℕ) (old : List ℕ) → PassesSome count 0 old old
passes_none_yet count old = record { found = ([], record { many = refl; each = All-nil IsInLine }, refl); only = λ values later many is. is }

module _ {count i : ℕ} {old now : List ℕ} (some : PassesSome count i old now) where
  -- the line that stands in front
  next_line : i < count → (values : List (List ℕ)) (later : List ℕ) → AreNotes count values → old ≡ notes_text values ++ later
      → now ≡ line_text (codes "# ") (get_or values i []) ++ (notes_text (drop (i + 1) values) ++ later)
  next_line within values later notes is =
      let here : i < length values = omega (arith, within, notes.many) in
      some.only values later notes is
      ∙ ap (λ vs. notes_text vs ++ later) (drop_more values i [] here)
      ∙ append_assoc (line_text (codes "# ") (get_or values i [])) (notes_text (drop (i + 1) values)) later

  pub passes_one_more : {new : List ℕ} → i < count → Passes IsInLine (line_text (codes "# ")) now new (Some tt) → PassesSome count (i + 1) old new
  passes_one_more {new} within passed =
      let values = some.found.0 in
      let line = passed.found refl in
      record {
        found = (
          values ++ line.0 ∷ [],
          record { many = length_push values line.0 ∙ ap (λ n. n + 1) some.found.1.many; each = All-push IsInLine values line.0 some.found.1.each line.1 },
          some.found.2 ∙ ap (λ (t : List ℕ). notes_text values ++ t) line.2
              ∙ sym (append_assoc (notes_text values) (line_text (codes "# ") line.0) new)
              ∙ ap (λ (t : List ℕ). t ++ new) (sym (flat_map-append (line_text (codes "# ")) values (line.0 ∷ []) ∙ ap (λ (t : List ℕ). notes_text values ++ t) (append-nil (line_text (codes "# ") line.0)))),
        );
        only = λ vs later notes is.
            let here : i < length vs = omega (arith, within, notes.many) in
            (passed.only (get_or vs i []) (notes_text (drop (i + 1) vs) ++ later) (All-get_or IsInLine vs i [] here notes.each) (next_line within vs later notes is)).1;
      }

  pub passes_no_more : {new : List ℕ} → i < count → Passes IsInLine (line_text (codes "# ")) now new None → Passes (AreNotes count) notes_text old new None
  passes_no_more within missing = record {
    found = λ any. absurd (false≢true any);
    only = λ values later notes is.
        let here : i < length values = omega (arith, within, notes.many) in
        absurd (false≢true (missing.only (get_or values i []) _ (All-get_or IsInLine values i [] here notes.each) (next_line within values later notes is)).0);
  }

  pub passes_all : i ≡ count → Passes (AreNotes count) notes_text old now (Some tt)
  passes_all all = record {
    found = λ any. subst (λ n. (values : List (List ℕ)) × AreNotes n values × (old ≡ notes_text values ++ now)) all some.found;
    only = λ values later notes is.
        (refl, some.only values later notes is ∙ ap (λ vs. notes_text vs ++ later) (drop_all i values (omega (arith, all, notes.many))));
  }
