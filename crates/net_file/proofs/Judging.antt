-- Lines judged one by one.
use Rattle.std.proofs.Common.{◌≡◌, ℕ, Bool, true, false, cond, List, [], ◌∷◌, ◌++◌, flat_map, Option, Some, None, refl, sym, ap, ◌∙◌}
use Rattle.std.proofs.lemmas.List.Sums.{fold-append}
use Rattle.std.proofs.lemmas.Grind.{flat_map-append}
use Rattle.std.proofs.lemmas.List.{append-nil}
use Rattle.vpr_text.specs.Words.{Line}
use Rattle.net_file.specs.declared.fault.LineFault.{LineFault}
use Rattle.net_file.specs.declared.fault.LineFault.TheVariants.{TooMany}
use Rattle.net_file.specs.declared.seen.Seen.{Seen}
use Rattle.net_file.specs.Judge.{first_fault, is_bad_line, is_bad_count, is_double, are_too_many, fault_of_next}
use Rattle.net_file.specs.Lines.{kind_at, is_element, block_name_on, net_names_on, global_names_on, block_names, net_names, global_names}
use Rattle.net_file.specs.Lines as lines
use Rattle.net_file.specs.Names.{with_name, with_names, distinct}
use Rattle.net_file.specs.kept.LinesSeen.{IsSeen, Notes, Judges, fault_after, latest_after}

pub nothing_seen : (s : Seen) → s.opened ≡ None → s.latest ≡ None → s.blocks ≡ [] → s.nets ≡ [] → s.globals ≡ [] → IsSeen [] s
unfolding lines.opened lines.latest block_names net_names global_names
nothing_seen s o l b n g = record { opened = o; latest = l; blocks = b; nets = n; globals = g }

-- ---- the limits come last

pub fault_stays : (bad_line bad_count double too_many : Bool) (fault : LineFault) → first_fault bad_line bad_count double false ≡ Some fault → first_fault bad_line bad_count double too_many ≡ Some fault
fault_stays true c d t f e = e
fault_stays false true d t f e = e
fault_stays false false true t f e = e
fault_stays false false false t f e = absurd cc

pub limits_last : (bad_line bad_count double too_many : Bool) → first_fault bad_line bad_count double false ≡ None → first_fault bad_line bad_count double too_many ≡ cond too_many (Some TooMany) None
limits_last true c d t e = absurd cc
limits_last false true d t e = absurd cc
limits_last false false true t e = absurd cc
limits_last false false false t e = refl

-- what a seen line's tests say without the limits
abbrev pub early_fault : ℕ → Seen → List (List ℕ) → Option LineFault
early_fault pins seen words = first_fault (is_bad_line seen.opened seen.latest words) (is_bad_count pins seen.opened words) (is_double seen.blocks words) false

pub judged_early : (pins : ℕ) (seen : Seen) (words : List (List ℕ)) (fault : LineFault) → early_fault pins seen words ≡ Some fault → Judges pins seen seen words (Some fault)
unfolding fault_after
judged_early pins seen words fault e =
    record {
      is = sym (fault_stays (is_bad_line seen.opened seen.latest words) (is_bad_count pins seen.opened words) (is_double seen.blocks words) _ fault e);
      added = λ n. absurd cc;
    }

pub judged_late : (pins : ℕ) (old new : Seen) (words : List (List ℕ)) (b : Bool) → early_fault pins old words ≡ None → Notes old new words → are_too_many new.blocks new.nets ≡ b → Judges pins old new words (cond b (Some TooMany) None)
unfolding fault_after
judged_late pins old new words b e notes limit =
    let counts : are_too_many new.blocks new.nets ≡ are_too_many (with_names old.blocks (block_name_on words)) (with_names old.nets (net_names_on words)) = rw (notes.blocks, notes.nets) refl in
    record {
      is = sym (limits_last (is_bad_line old.opened old.latest words) (is_bad_count pins old.opened words) (is_double old.blocks words) _ e ∙ ap (λ t. cond t (Some TooMany) None) (sym counts ∙ limit));
      added = λ n. notes;
    }

-- ---- a line more

pub words_more : (words_on : List (List ℕ) → List (List ℕ)) (before : List Line) (l : Line)
    → distinct (flat_map (λ k. words_on k.words) (before ++ l ∷ [])) ≡ with_names (distinct (flat_map (λ k. words_on k.words) before)) (words_on l.words)
words_more words_on before l =
    ap distinct (flat_map-append (λ k. words_on k.words) before (l ∷ []) ∙ ap (λ ws. flat_map (λ k. words_on k.words) before ++ ws) (append-nil (words_on l.words)))
    ∙ fold-append with_name [] (flat_map (λ k. words_on k.words) before) (words_on l.words)

pub seen_more : (before : List Line) (l : Line) (old new : Seen) → IsSeen before old → Notes old new l.words → IsSeen (before ++ l ∷ []) new
unfolding lines.opened lines.latest block_names net_names global_names
seen_more before l old new seen notes =
    record {
      opened = notes.opened ∙ sym (fold-append (λ _ k. kind_at k.words) None before (l ∷ []));
      latest = notes.latest ∙ ap (λ kind. latest_after kind l.words) seen.latest ∙ sym (fold-append (λ kind k. latest_after kind k.words) None before (l ∷ []));
      blocks = notes.blocks ∙ ap (λ names. with_names names (block_name_on l.words)) seen.blocks ∙ sym (words_more block_name_on before l);
      nets = notes.nets ∙ ap (λ names. with_names names (net_names_on l.words)) seen.nets ∙ sym (words_more net_names_on before l);
      globals = notes.globals ∙ ap (λ names. with_names names (global_names_on l.words)) seen.globals ∙ sym (words_more global_names_on before l);
    }

pub fault_is : (pins : ℕ) (before : List Line) (l : Line) (seen : Seen) → IsSeen before seen → fault_after pins seen l.words ≡ fault_of_next pins before l
unfolding fault_after fault_of_next block_names net_names
fault_is pins before l seen is =
    rw (is.opened, is.latest, is.blocks, is.nets, words_more block_name_on before l, words_more net_names_on before l) refl
