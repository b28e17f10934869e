-- Rows judged one by one.
use Rattle.std.proofs.Common.{◌≡◌, ℕ, ◌+◌, ◌<◌, ◌≤◌, Bool, true, false, cond, not, ◌&&◌, eqb, ltb, List, [], ◌∷◌, ◌++◌, length, map, get_or, set, take, drop, Option, None, Some, refl, sym, ap, subst, ◌∙◌, arith, zero-add, add-one}
use Rattle.std.specs.Prelude.{is_some, find}
use Rattle.std.specs.Option.{option_or, option_map}
use Rattle.std.specs.List.{range_with_len}
use Rattle.std.proofs.Math.Bool.{and-false}
use Rattle.std.proofs.Math.Seq.{drop-cons}
use Rattle.std.proofs.lemmas.Bool.{eqb-true, eqb-false, ltb-false, lt-ltb, le-ltb, not-false}
use Rattle.std.proofs.lemmas.Bool.Decides.{nat_tests}
use Rattle.std.proofs.lemmas.List.{drop_all, take_all, length-map, length-set, get_or-set_same, get_or-set_other, ext_get_or}
use Rattle.std.proofs.lemmas.List.Folds.{find-append}
use Rattle.std.proofs.lemmas.List.FromFn.{length-range_with_len, get_or-map-range_with_len}
use Rattle.vpr_text.specs.Words.{Line, no_line, number_at, words_at}
use Rattle.net_file.specs.Netlist.{Block}
use Rattle.place_file.specs.declared.fault.PlaceFault.{PlaceFault}
use Rattle.place_file.specs.declared.fault.PlaceFault.TheVariants as place
use Rattle.place_file.specs.declared.site.Array.{Array}
use Rattle.place_file.specs.declared.site.Site.{Site}
use Rattle.place_file.specs.Judge.{is_size, first_fault, row_fault, rows_fault_from, header_fault}
use Rattle.place_file.specs.kept.OccupiedSites.{IsFit}
use Rattle.place_file.specs.Lines.{is_title, is_size_line, array_on, is_row, block_named, block_on, site_on}
use Rattle.place_file.specs.Placement.{is_site, kind_at}
use Rattle.place_file.specs.Sites.{is_row_of, site_in, sites_in, site_at, is_occupied}
use Rattle.net_file.proofs.Ranges.{take_next}
use Rattle.place_file.proofs.Placing.{block_within}

-- ---- a row without a fault

record HasNone (bad unknown twice off occupied : Bool) : Type 0 where
  good : bad ≡ false
  known : unknown ≡ false
  once : twice ≡ false
  fitting : off ≡ false
  alone : occupied ≡ false

has_none : (n : ℕ) (a b c d e : Bool) → first_fault n a b c d e ≡ None → HasNone a b c d e
has_none n true b c d e h = absurd cc
has_none n false true c d e h = absurd cc
has_none n false false true d e h = absurd cc
has_none n false false false true e h = absurd cc
has_none n false false false false true h = absurd cc
has_none n false false false false false h = record { good = refl; known = refl; once = refl; fitting = refl; alone = refl }

none_from_not : {X : Type 0} (r : Option X) → is_some r ≡ false → r ≡ None
none_from_not None e = refl
none_from_not (Some x) e = absurd cc

-- what is known of a row without a fault, after these sites
pub record IsGood (array : Array) (blocks : List Block) (sites : List (Option Site)) (words : List (List ℕ)) : Type 0 where
  pub form : is_row words ≡ true
  pub known : is_some (block_named blocks words) ≡ true
  pub once : site_at sites (block_on blocks words) ≡ None
  pub fitting : is_site array (kind_at blocks (block_on blocks words)) (site_on words) ≡ true
  pub alone : is_occupied sites (site_on words) ≡ false

pub good_row : (array : Array) (blocks : List Block) (sites : List (Option Site)) (n : ℕ) (words : List (List ℕ)) → row_fault array blocks sites n words ≡ None → IsGood array blocks sites words
unfolding row_fault
good_row array blocks sites n words e =
    let h = has_none n _ _ _ _ _ e in
    record { form = not-false _ h.good; known = not-false _ h.known; once = none_from_not _ h.once; fitting = not-false _ h.fitting; alone = h.alone }

pub row_faultless : (array : Array) (blocks : List Block) (sites : List (Option Site)) (n : ℕ) (words : List (List ℕ)) → IsGood array blocks sites words → row_fault array blocks sites n words ≡ None
unfolding row_fault
row_faultless array blocks sites n words h = rw (h.form, h.known, h.once, h.fitting, h.alone) refl

within_by : (blocks : List Block) (words : List (List ℕ)) (r : Option ℕ) → block_named blocks words ≡ r → is_some r ≡ true → block_on blocks words < length blocks
within_by blocks words None is e = absurd cc
within_by blocks words (Some b) is e = let same : block_on blocks words ≡ b = rw is refl in rw same (block_within blocks _ b is)

pub good_within : (blocks : List Block) (words : List (List ℕ)) → is_some (block_named blocks words) ≡ true → block_on blocks words < length blocks
good_within blocks words e = within_by blocks words (block_named blocks words) refl e

-- ---- a row more

map_or : {X Y : Type 0} (f : X → Y) (a b : Option X) → option_map f (option_or a b) ≡ option_or (option_map f a) (option_map f b)
map_or f None b = refl
map_or f (Some x) b = refl

map_found : {X Y : Type 0} (f : X → Y) (b : Bool) (x : X) → option_map f (cond b (Some x) None) ≡ cond b (Some (f x)) None
map_found f true x = refl
map_found f false x = refl

pub site_more : (blocks : List Block) (rows : List Line) (l : Line) (b : ℕ) → site_in blocks (rows ++ l ∷ []) b ≡ option_or (site_in blocks rows b) (cond (eqb (block_on blocks l.words) b) (Some (site_on l.words)) None)
unfolding site_in
site_more blocks rows l b =
    ap (option_map (λ row. site_on row.words)) (find-append (is_row_of blocks b) rows (l ∷ []))
    ∙ map_or (λ row. site_on row.words) (find (is_row_of blocks b) rows) (find (is_row_of blocks b) (l ∷ []))
    ∙ ap (option_or (site_in blocks rows b)) (map_found (λ row. site_on row.words) (eqb (block_on blocks l.words) b) l)

pub site_here : (blocks : List Block) (rows : List Line) (b : ℕ) → b < length blocks → site_at (sites_in blocks rows) b ≡ site_in blocks rows b
unfolding sites_in
site_here blocks rows b within = get_or-map-range_with_len (site_in blocks rows) 0 (length blocks) b b None within (zero-add b)

pub count_sites : (blocks : List Block) (rows : List Line) → length (sites_in blocks rows) ≡ length blocks
unfolding sites_in
count_sites blocks rows = length-map (range_with_len 0 (length blocks)) (site_in blocks rows) ∙ length-range_with_len 0 (length blocks)

pub or_none : (a : Option Site) → option_or a None ≡ a
or_none None = refl
or_none (Some x) = refl

put_by : (blocks : List Block) (rows : List Line) (l : Line) (b : ℕ) (one : Bool) → eqb (block_on blocks l.words) b ≡ one → b < length blocks → site_at (sites_in blocks rows) (block_on blocks l.words) ≡ None
    → get_or (set (sites_in blocks rows) (block_on blocks l.words) (Some (site_on l.words))) b None ≡ option_or (site_in blocks rows b) (cond one (Some (site_on l.words)) None)
put_by blocks rows l b true e within free =
    let k = block_on blocks l.words in
    let same : k ≡ b = eqb-true k b e in
    let none : site_in blocks rows b ≡ None = sym (site_here blocks rows b within) ∙ ap (site_at (sites_in blocks rows)) (sym same) ∙ free in
    let inside : k < length (sites_in blocks rows) = omega (arith, same, within, count_sites blocks rows) in
    ap (λ i. get_or (set (sites_in blocks rows) k (Some (site_on l.words))) i None) (sym same)
    ∙ get_or-set_same (sites_in blocks rows) k (Some (site_on l.words)) None inside
    ∙ sym (ap (λ r. option_or r (Some (site_on l.words))) none)
put_by blocks rows l b false e within free =
    let k = block_on blocks l.words in
    get_or-set_other (sites_in blocks rows) k b (Some (site_on l.words)) None (λ h. eqb-false k b e (sym h)) ∙ site_here blocks rows b within ∙ sym (or_none (site_in blocks rows b))

pub sites_more : (blocks : List Block) (rows : List Line) (l : Line) → site_at (sites_in blocks rows) (block_on blocks l.words) ≡ None
    → set (sites_in blocks rows) (block_on blocks l.words) (Some (site_on l.words)) ≡ sites_in blocks (rows ++ l ∷ [])
sites_more blocks rows l free =
    let old = sites_in blocks rows in
    let k = block_on blocks l.words in
    let one = Some (site_on l.words) in
    let count : length (set old k one) ≡ length blocks = length-set old k one ∙ count_sites blocks rows in
    ext_get_or None (set old k one) (sites_in blocks (rows ++ l ∷ [])) (count ∙ sym (count_sites blocks (rows ++ l ∷ [])))
    (λ b lt.
    let within : b < length blocks = subst (λ n. b < n) count lt in
    put_by blocks rows l b (eqb k b) refl within free ∙ sym (site_here blocks (rows ++ l ∷ []) b within ∙ site_more blocks rows l b))

-- ---- row by row, as the loop does

module _ (array : Array) (blocks : List Block) (rows : List Line) where
  -- the fault of row i, and the first from row i on
  abbrev pub fault_of : ℕ → Option PlaceFault
  fault_of i = row_fault array blocks (sites_in blocks (take i rows)) (number_at rows i) (words_at rows i)

  abbrev pub first_from : ℕ → Option PlaceFault
  first_from i = rows_fault_from array blocks (take i rows) (drop i rows)

  pub opens : (i : ℕ) → i < length rows → first_from i ≡ option_or (fault_of i) (first_from (i + 1))
  unfolding rows_fault_from
  opens i lt =
      let rest : drop i rows ≡ get_or rows i no_line ∷ drop (i + 1) rows = rw add-one (drop-cons rows i no_line lt) in
      ap (rows_fault_from array blocks (take i rows)) rest
      ∙ ap (λ front. option_or (fault_of i) (rows_fault_from array blocks front (drop (i + 1) rows))) (sym (take_next rows i no_line lt))

  -- the sites so far are those of the rows so far, and none of them is faulty
  abbrev pub IsSoFar : ℕ → List (Option Site) → Type 0
  IsSoFar i sites = (sites ≡ sites_in blocks (take i rows)) × (first_from i ≡ rows_fault_from array blocks [] rows)

  pub stepped : (i : ℕ) (old new : List (Option Site)) (n : ℕ) (words : List (List ℕ)) (fault : Option PlaceFault) → i < length rows → n ≡ number_at rows i → words ≡ words_at rows i
      → fault ≡ row_fault array blocks old n words → fault ≡ None → new ≡ set old (block_on blocks words) (Some (site_on words))
      → IsSoFar i old → IsSoFar (i + 1) new
  stepped i old new n words fault lt at here is none put h =
      let no_fault : fault_of i ≡ None = sym (rw (at, here, h.0) at (sym none ∙ is)) in
      let good = good_row array blocks (sites_in blocks (take i rows)) (number_at rows i) (words_at rows i) no_fault in (
        put ∙ rw (here, h.0) (sites_more blocks (take i rows) (get_or rows i no_line) good.once ∙ ap (sites_in blocks) (sym (take_next rows i no_line lt))),
        ap (λ f. option_or f (first_from (i + 1))) (sym no_fault) ∙ sym (opens i lt) ∙ h.1,
      )

  pub refused : (i : ℕ) (old : List (Option Site)) (n : ℕ) (words : List (List ℕ)) (fault : PlaceFault) → i < length rows → n ≡ number_at rows i → words ≡ words_at rows i
      → Some fault ≡ row_fault array blocks old n words → IsSoFar i old → rows_fault_from array blocks [] rows ≡ Some fault
  refused i old n words fault lt at here is h =
      let faulty : Some fault ≡ fault_of i = rw (at, here, h.0) at is in
      sym h.1 ∙ opens i lt ∙ ap (λ f. option_or f (first_from (i + 1))) (sym faulty)

  pub ended : (i : ℕ) (sites : List (Option Site)) → length rows ≤ i → IsSoFar i sites → (rows_fault_from array blocks [] rows ≡ None) × (sites ≡ sites_in blocks rows)
  unfolding rows_fault_from
  ended i sites past h = (
    sym h.1 ∙ ap (rows_fault_from array blocks (take i rows)) (drop_all i rows past),
    h.0 ∙ ap (sites_in blocks) (take_all i rows past),
  )

-- ---- what the first two lines tell

-- what is known of the first two lines where they have no fault
pub record IsHead (io_rat : ℕ) (lines : List Line) : Type 0 where
  pub long : 2 ≤ length lines
  pub title : is_title (words_at lines 0) ≡ true
  pub size_line : is_size_line (words_at lines 1) ≡ true
  pub size : is_size (array_on io_rat lines) ≡ true

record HasNoFault (title short size_line size : Bool) : Type 0 where
  titled : title ≡ false
  long : short ≡ false
  sized : size_line ≡ false
  fitting : size ≡ false

header_by : (io_rat : ℕ) (lines : List Line) (bad short line size : Bool) → (cond bad (Some (place.BadLine (number_at lines 0))) (cond short (Some (place.BadLine 0)) (cond line (Some (place.BadLine (number_at lines 1))) (cond size (Some (place.ArraySize (number_at lines 1))) None)))) ≡ None
    → HasNoFault bad short line size
header_by io_rat lines true b c d e = absurd cc
header_by io_rat lines false true c d e = absurd cc
header_by io_rat lines false false true d e = absurd cc
header_by io_rat lines false false false true e = absurd cc
header_by io_rat lines false false false false e = record { titled = refl; long = refl; sized = refl; fitting = refl }

second_true : (a b : Bool) → a ≡ true → (a && not b) ≡ false → b ≡ true
second_true true b e f = not-false b f
second_true false b e f = absurd cc

pub header_good : (io_rat : ℕ) (lines : List Line) → header_fault io_rat lines ≡ None → IsHead io_rat lines
unfolding header_fault
header_good io_rat lines e =
    let h = header_by io_rat lines _ _ _ _ e in
    let long = ltb-false (length lines) 2 h.long in
    record {
      long = long;
      title = second_true (ltb 0 (length lines)) (is_title (words_at lines 0)) (lt-ltb 0 (length lines) (omega (arith, long))) h.titled;
      size_line = not-false _ h.sized;
      size = not-false _ h.fitting;
    }

pub header_faultless : (io_rat : ℕ) (lines : List Line) → IsHead io_rat lines → header_fault io_rat lines ≡ None
unfolding header_fault
header_faultless io_rat lines h =
    let titled : (ltb 0 (length lines) && not (is_title (words_at lines 0))) ≡ false = rw h.title (and-false (ltb 0 (length lines))) in
    rw (titled, le-ltb (length lines) 2 h.long, h.size_line, h.size) refl

pub header_long : (io_rat : ℕ) (lines : List Line) → header_fault io_rat lines ≡ None → 2 ≤ length lines
header_long io_rat lines e = (header_good io_rat lines e).long

pub header_fit : (io_rat : ℕ) (lines : List Line) → io_rat ≤ 16 → header_fault io_rat lines ≡ None → IsFit (array_on io_rat lines)
header_fit io_rat lines few e =
    let size = (header_good io_rat lines e).size in
    record { pads = few; some_columns = grind (arith, nat_tests, size); columns = grind (arith, nat_tests, size); some_rows = grind (arith, nat_tests, size); rows = grind (arith, nat_tests, size) }

-- ---- the rows after the first two lines

pub no_rows : (blocks : List Block) (sites : List (Option Site)) (n : ℕ) → n ≡ length blocks → sites ≡ map (λ _. None) (range_with_len 0 n) → sites ≡ sites_in blocks []
unfolding sites_in site_in
no_rows blocks sites n count e = e ∙ ap (λ k. map (λ _. None) (range_with_len 0 k)) count
