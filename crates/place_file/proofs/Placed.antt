-- What is read is placed.
use Rattle.std.proofs.Common.{◌≡◌, ℕ, ◌+◌, ◌<◌, Bool, true, false, cond, not, eqb, List, [], ◌∷◌, ◌++◌, length, map, Option, None, Some, Result, Ok, Err, refl, sym, ap, subst, ◌∙◌, arith}
use Rattle.std.specs.Prelude.{is_some, slice_get, IfOk}
use Rattle.std.specs.Option.{option_or, option_map}
use Rattle.std.specs.List.{position_from, filter_map}
use Rattle.std.proofs.lemmas.Bool.{eqb-true}
use Rattle.std.proofs.lemmas.Bool.Decides.{nat_tests}
use Rattle.std.proofs.lemmas.Iterator.Adapters.{position_from-zero}
use Rattle.std.proofs.lemmas.List.{append-nil, append_assoc, length-map, get_or-map}
use Rattle.std.proofs.lemmas.List.Folds.{list_any_at}
use Rattle.std.proofs.lemmas.Option.{slice_get_within, get_or_from_slice_get}
use Rattle.vpr_text.specs.Words.{Line}
use Rattle.vpr_text.specs.Text.{lines_of}
use Rattle.vpr_text.specs.declared.fault.TextFault.{TextFault}
use Rattle.vpr_text.proofs.Readings.{given_ok, not_faulty}
use Rattle.net_file.specs.Netlist.{Block}
use Rattle.place_file.specs.declared.fault.PlaceFault.{PlaceFault}
use Rattle.place_file.specs.declared.fault.PlaceFault.TheVariants as place
use Rattle.place_file.specs.declared.site.Array.{Array}
use Rattle.place_file.specs.declared.site.Site.{Site}
use Rattle.place_file.specs.Judge.{rows_fault_from, header_fault}
use Rattle.place_file.specs.Lines.{array_on, block_on, site_on, rows_of}
use Rattle.place_file.specs.Placement.{Placement, IsPlaced, is_site, kind_at}
use Rattle.place_file.specs.Reading.{first_missing, completed, placing, reading, placement_of}
use Rattle.vpr_text.specs.Readings.{Gives}
use Rattle.place_file.specs.Sites.{site_in, sites_in, site_at, is_on, is_occupied, same_site}
use Rattle.place_file.proofs.Steps.{IsGood, good_row, good_within, site_more, site_here, count_sites}

-- ---- rows without a fault give sites of the right kind, each to one block

record IsSound (array : Array) (blocks : List Block) (rows : List Line) : Type 0 where
  within : (b : ℕ) (s : Site) → site_in blocks rows b ≡ Some s → b < length blocks
  fitting : (b : ℕ) (s : Site) → site_in blocks rows b ≡ Some s → is_site array (kind_at blocks b) s ≡ true
  apart : (a b : ℕ) (s : Site) → site_in blocks rows a ≡ Some s → site_in blocks rows b ≡ Some s → a ≡ b

pub none_some : {X P : Type 0} (x : X) → None ≡ Some x → P
none_some x e = absurd cc

some_from : (t s : Site) → Some t ≡ Some s → t ≡ s
some_from t s e = ap (λ r. option_map_site t r) e
  where
    option_map_site : Site → Option Site → Site
    option_map_site d None = d
    option_map_site d (Some x) = x

pub by_row : {P : Type 0} (r : Option Site) (one : Bool) (t s : Site) → option_or r (cond one (Some t) None) ≡ Some s → (r ≡ Some s → P) → (one ≡ true → t ≡ s → P) → P
by_row (Some x) one t s e f g = f e
by_row None true t s e f g = g refl (some_from t s e)
by_row None false t s e f g = none_some s e

same_self : (s : Site) → same_site s s ≡ true
same_self s = grind (arith, nat_tests)

occupied : (blocks : List Block) (rows : List Line) (a : ℕ) (s : Site) → a < length blocks → site_in blocks rows a ≡ Some s → is_occupied (sites_in blocks rows) s ≡ true
unfolding is_occupied
occupied blocks rows a s within e =
    list_any_at (is_on s) (sites_in blocks rows) a None (omega (arith, count_sites blocks rows, within))
    (ap (is_on s) (site_here blocks rows a within ∙ e) ∙ same_self s)

two_answers : {P : Type 0} (b : Bool) → b ≡ true → b ≡ false → P
two_answers true e f = absurd cc
two_answers false e f = absurd cc

sound_none : (array : Array) (blocks : List Block) → IsSound array blocks []
unfolding site_in
sound_none array blocks = record { within = λ b s e. none_some s e; fitting = λ b s e. none_some s e; apart = λ a b s e f. none_some s e }

sound_more : (array : Array) (blocks : List Block) (rows : List Line) (l : Line) → IsSound array blocks rows → IsGood array blocks (sites_in blocks rows) l.words → IsSound array blocks (rows ++ l ∷ [])
sound_more array blocks rows l h good =
    let k = block_on blocks l.words in
    let t = site_on l.words in
    let here = λ (b : ℕ) (s : Site) (e : site_in blocks (rows ++ l ∷ []) b ≡ Some s). sym (site_more blocks rows l b) ∙ e in
    let clash = λ (P : Type 0) (a : ℕ) (s : Site) (old : site_in blocks rows a ≡ Some s) (same : t ≡ s).
    two_answers {P = P} (is_occupied (sites_in blocks rows) s) (occupied blocks rows a s (h.within a s old) old) (ap (is_occupied (sites_in blocks rows)) (sym same) ∙ good.alone) in
    record {
      within = λ b s e.
          by_row (site_in blocks rows b) (eqb k b) t s (here b s e)
          (λ old. h.within b s old)
          (λ one same. subst (λ n. n < length blocks) (eqb-true k b one) (good_within blocks l.words good.known));
      fitting = λ b s e.
          by_row (site_in blocks rows b) (eqb k b) t s (here b s e)
          (λ old. h.fitting b s old)
          (λ one same. ap (λ n. is_site array (kind_at blocks n) s) (sym (eqb-true k b one)) ∙ ap (is_site array (kind_at blocks k)) (sym same) ∙ good.fitting);
      apart = λ a b s e f.
          by_row (site_in blocks rows a) (eqb k a) t s (here a s e)
          (λ old. by_row (site_in blocks rows b) (eqb k b) t s (here b s f) (λ older. h.apart a b s old older) (λ one same. clash (a ≡ b) a s old same))
          (λ one same. by_row (site_in blocks rows b) (eqb k b) t s (here b s f) (λ old. clash (a ≡ b) b s old same) (λ two also. sym (eqb-true k a one) ∙ eqb-true k b two));
    }

pub both_none : (a b : Option PlaceFault) → option_or a b ≡ None → (a ≡ None) × (b ≡ None)
both_none None b e = (refl, e)
both_none (Some x) b e = absurd cc

sound_from : (array : Array) (blocks : List Block) (before ls : List Line) → rows_fault_from array blocks before ls ≡ None → IsSound array blocks before → IsSound array blocks (before ++ ls)
unfolding rows_fault_from
sound_from array blocks before [] e h = subst (IsSound array blocks) (sym (append-nil before)) h
sound_from array blocks before (l ∷ ls) e h =
    let none = both_none _ _ e in
    let good = good_row array blocks (sites_in blocks before) l.number l.words none.0 in
    subst (IsSound array blocks) (append_assoc before (l ∷ []) ls) (sound_from array blocks (before ++ l ∷ []) ls none.1 (sound_more array blocks before l h good))

-- ---- the sites of all blocks

pub all_some : (k : ℕ) (sites : List (Option Site)) → position_from (λ s. not (is_some s)) k sites ≡ None → sites ≡ map Some (filter_map (λ s. s) sites)
all_some k [] e = refl
all_some k (None ∷ xs) e = absurd cc
all_some k (Some x ∷ xs) e = ap (λ ys. Some x ∷ ys) (all_some (k + 1) xs e)

pub not_missing : (r : Option ℕ) → option_map place.Missing r ≡ None → r ≡ None
not_missing None e = refl
not_missing (Some b) e = absurd cc

abbrev value : {X : Type 0} → X → Result X PlaceFault → X
value d (Ok y) = y
value d (Err f) = d

pub ok_from : {X : Type 0} (d y : X) (r : Result X PlaceFault) → r ≡ Ok y → value d r ≡ y
ok_from d y r e = ap (value d) e

pub site_of : (ys : List Site) (sites : List (Option Site)) (b : ℕ) (s : Site) → sites ≡ map Some ys → slice_get ys b ≡ Some s → site_at sites b ≡ Some s
site_of ys sites b s are e =
    ap (λ xs. site_at xs b) are ∙ get_or-map Some ys b s None (slice_get_within ys b s e) ∙ ap Some (get_or_from_slice_get ys b s s e)

placed_sites : (array : Array) (blocks : List Block) (rows : List Line) (ys : List Site) → sites_in blocks rows ≡ map Some ys → IsSound array blocks rows
    → IsPlaced array.io_rat blocks (record { nx = array.nx; ny = array.ny; sites = ys })
placed_sites array blocks rows ys are h =
    let count : length ys ≡ length blocks = sym (length-map ys Some) ∙ ap length (sym are) ∙ count_sites blocks rows in
    let site = λ (b : ℕ) (s : Site) (e : slice_get ys b ≡ Some s).
    let within : b < length blocks = subst (λ n. b < n) count (slice_get_within ys b s e) in
    sym (site_here blocks rows b within) ∙ site_of ys (sites_in blocks rows) b s are e in
    record {
      all = count;
      fitting = λ b s e. h.fitting b s (site b s e);
      apart = λ a b s e f. h.apart a b s (site a s e) (site b s f);
    }

pub placed_rows : (array : Array) (blocks : List Block) (rows : List Line) (p : Placement) → placing array blocks rows ≡ Ok p → IsPlaced array.io_rat blocks p
unfolding placing completed
placed_rows array blocks rows p e =
    let sites = sites_in blocks rows in
    let good = not_faulty (rows_fault_from array blocks [] rows) _ p e in
    let whole = not_faulty (option_map place.Missing (first_missing sites)) _ p good.1 in
    let none = sym (position_from-zero (λ (s : Option Site). not (is_some s)) sites) ∙ not_missing (first_missing sites) whole.0 in
    let sound = sound_from array blocks [] rows good.0 (sound_none array blocks) in
    subst (IsPlaced array.io_rat blocks) (ok_from p p _ whole.1) (placed_sites array blocks rows (filter_map (λ s. s) sites) (all_some 0 sites none) sound)

placed_lines : (io_rat : ℕ) (blocks : List Block) (lines : List Line) (p : Placement) → reading io_rat blocks lines ≡ Ok p → IsPlaced io_rat blocks p
unfolding reading
placed_lines io_rat blocks lines p e = placed_rows (array_on io_rat lines) blocks (rows_of lines) p (not_faulty (header_fault io_rat lines) _ p e).1

placed_by : (io_rat : ℕ) (blocks : List Block) (bytes : List ℕ) (p : Placement) (r : Result (List Line) TextFault) → lines_of bytes ≡ r → placement_of io_rat blocks bytes ≡ Ok p → IsPlaced io_rat blocks p
unfolding placement_of
placed_by io_rat blocks bytes p (Ok lines) is e = placed_lines io_rat blocks lines p (rw is at e)
placed_by io_rat blocks bytes p (Err fault) is e = absurd cc

-- what a reader gave is placed
pub placed_given : (io_rat : ℕ) (blocks : List Block) (bytes : List ℕ) (r : Result Placement PlaceFault) → Gives place.Memory (λ p. p) r (placement_of io_rat blocks bytes) → IfOk r (λ p. IsPlaced io_rat blocks p)
placed_given io_rat blocks bytes r given = given_ok place.Memory (IsPlaced io_rat blocks) r (placement_of io_rat blocks bytes) given (λ p e. placed_by io_rat blocks bytes p (lines_of bytes) refl e)
