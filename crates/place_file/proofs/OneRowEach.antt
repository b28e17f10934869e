-- Rows of which each block has one give it its site, and have no fault; and rows without a fault
-- that give all blocks sites are such.
use Rattle.std.proofs.Common.{◌≡◌, ℕ, zero, suc, ◌+◌, ◌<◌, ◌≤◌, Bool, true, false, cond, eqb, ltb, List, [], ◌∷◌, length, map, get_or, take, Option, None, Some, inl, inr, refl, sym, ap, subst, ◌∙◌, add-one, arith, eq-or-lt_of_le}
use Rattle.std.specs.Prelude.{is_some, slice_get, unwrap_or}
use Rattle.std.specs.Option.{option_or}
use Rattle.std.proofs.lemmas.Bool.{cases_lt, lt-ltb, le-ltb, eq-eqb, ne_eqb, eqb-true, ltb-true}
use Rattle.std.proofs.lemmas.Bool.Decides.{nat_tests}
use Rattle.std.proofs.lemmas.List.{take_all, length-map, ext_get_or}
use Rattle.std.proofs.lemmas.List.Folds.{list_any_none}
use Rattle.std.proofs.lemmas.Option.{slice_get-get_or}
use Rattle.std.specs.Cmp.{both_ways}
use Rattle.vpr_text.specs.Words.{Line, no_line, words_at, number_at}
use Rattle.net_file.specs.Netlist.{Block}
use Rattle.net_file.proofs.Each.{each_mapped}
use Rattle.net_file.proofs.Ranges.{take_next}
use Rattle.place_file.specs.declared.site.Array.{Array}
use Rattle.place_file.specs.declared.site.Site.{Site}
use Rattle.place_file.specs.Judge.{rows_fault_from}
use Rattle.place_file.specs.Lines.{block_named, block_on, site_on}
use Rattle.place_file.specs.Placement.{Placement, IsPlaced, array_of, is_site, kind_at}
use Rattle.place_file.specs.Reads.{IsRowOf, AreRows}
use Rattle.place_file.specs.Sites.{site_in, sites_in, site_at, is_on, is_occupied, same_site}
use Rattle.place_file.proofs.Placed.{by_row, none_some, both_none, site_of}
use Rattle.place_file.proofs.Placing.{block_within}
use Rattle.place_file.proofs.Steps.{IsGood, good_row, good_within, row_faultless, site_more, site_here, count_sites, or_none, fault_of, first_from, opens, ended}

-- the block that a row names
on_is : (blocks : List Block) (words : List (List ℕ)) (b : ℕ) → block_named blocks words ≡ Some b → block_on blocks words ≡ b
on_is blocks words b e = ap (λ r. unwrap_or r 0) e

-- ---- rows of which each block has one

one_site : (s t : Site) → same_site s t ≡ true → s ≡ t
one_site s t e =
    let x : s.x ≡ t.x = grind (arith, nat_tests, e) in
    let y : s.y ≡ t.y = grind (arith, nat_tests, e) in
    let subblk : s.subblk ≡ t.subblk = grind (arith, nat_tests, e) in
    λ i. record { x = x i; y = y i; subblk = subblk i }

same_tests : (a b c d : ℕ) → (a ≡ b → c ≡ d) → (c ≡ d → a ≡ b) → eqb a b ≡ eqb c d
same_tests a b c d f g = both_ways (eqb a b) (eqb c d) (λ e. eq-eqb c d (f (eqb-true a b e))) (λ e. eq-eqb a b (g (eqb-true c d e)))

-- the site that is reported by row r is known after row r, and not before
next_site : (r k : ℕ) (site : Option Site) (t : Site) → (r ≡ k → site ≡ Some t) → option_or (cond (ltb r k) site None) (cond (eqb r k) (Some t) None) ≡ cond (ltb r (k + 1)) site None
next_site r k site t h =
    elim (cases_lt r k) [
      | inl less ↦ rw (lt-ltb r k less, ne_eqb r k (λ e. omega (arith, e, less)), lt-ltb r (k + 1) (omega (arith, less))) (or_none site)
      | inr past ↦
          elim (eq-or-lt_of_le past) [
            | inl same ↦ rw (le-ltb r k past, eq-eqb r k (sym same), lt-ltb r (k + 1) (omega (arith, same))) (sym (h (sym same)))
            | inr more ↦ rw (le-ltb r k past, ne_eqb r k (λ e. omega (arith, e, more)), le-ltb r (k + 1) (omega (arith, more))) refl
          ]
    ]

module _ (blocks : List Block) (p : Placement) (rows : List Line) (h : AreRows blocks p rows) where
  abbrev row_of : (b : ℕ) → b < length blocks → ℕ
  row_of b within = (h.each_block b within).0

  -- a row is that of block b where it names b
  is_row_of : (b : ℕ) (within : b < length blocks) (i : ℕ) → i < length rows → block_on blocks (words_at rows i) ≡ b → row_of b within ≡ i
  is_row_of b within i lt e =
      let row = h.each_row i lt in
      let same : row.0 ≡ b = sym (on_is blocks (words_at rows i) row.0 row.1.name) ∙ e in
      h.once b (row_of b within) i (h.each_block b within).1 (subst (λ c. IsRowOf blocks p rows c i) same row.1)

  names_row : (b : ℕ) (within : b < length blocks) (i : ℕ) → i < length rows → eqb (block_on blocks (words_at rows i)) b ≡ eqb (row_of b within) i
  names_row b within i lt =
      same_tests (block_on blocks (words_at rows i)) b (row_of b within) i (is_row_of b within i lt)
      (λ e. on_is blocks (words_at rows i) b (subst (λ k. block_named blocks (words_at rows k) ≡ Some b) e (h.each_block b within).1.name))

  -- after k rows the blocks have sites whose rows are among these
  sited : (b : ℕ) (within : b < length blocks) (k : ℕ) → k ≤ length rows → site_in blocks (take k rows) b ≡ cond (ltb (row_of b within) k) (slice_get p.sites b) None
  unfolding site_in
  sited b within zero le = ap (λ known. cond known (slice_get p.sites b) None) (sym (le-ltb (row_of b within) 0 (omega arith)))
  sited b within (suc k) le =
      let lt : k < length rows = omega (arith, le) in
      let words = words_at rows k in
      ap (λ n. site_in blocks (take n rows) b) (sym (add-one k))
      ∙ ap (λ front. site_in blocks front b) (take_next rows k no_line lt)
      ∙ site_more blocks (take k rows) (get_or rows k no_line) b
      ∙ ap (λ old. option_or old (cond (eqb (block_on blocks words) b) (Some (site_on words)) None)) (sited b within k (omega (arith, le)))
      ∙ ap (λ test. option_or (cond (ltb (row_of b within) k) (slice_get p.sites b) None) (cond test (Some (site_on words)) None)) (names_row b within k lt)
      ∙ next_site (row_of b within) k (slice_get p.sites b) (site_on words) (λ e. subst (λ i. slice_get p.sites b ≡ Some (site_on (words_at rows i))) e (h.each_block b within).1.site)
      ∙ ap (λ n. cond (ltb (row_of b within) n) (slice_get p.sites b) None) (add-one k)

  module _ (io_rat : ℕ) (placed : IsPlaced io_rat blocks p) where
    -- a block after whose row these rows end stands elsewhere
    elsewhere : (k : ℕ) (s : Site) (b : ℕ) → IsRowOf blocks p rows b k → slice_get p.sites b ≡ Some s → (c : ℕ) (within : c < length blocks) (known : Bool) → ltb (row_of c within) k ≡ known
        → (site : Option Site) → slice_get p.sites c ≡ site → is_on s (cond known site None) ≡ false
    elsewhere k s b row here c within false e site reported = refl
    elsewhere k s b row here c within true e None reported = refl
    elsewhere k s b row here c within true e (Some t) reported = not_same (same_site s t) refl
      where
        not_same : (one : Bool) → same_site s t ≡ one → one ≡ false
        not_same false f = refl
        not_same true f =
            let same : s ≡ t = one_site s t f in
            let block : c ≡ b = placed.apart c b s (reported ∙ ap Some (sym same)) here in
            let late : row_of c within ≡ k = h.once c (row_of c within) k (h.each_block c within).1 (subst (λ d. IsRowOf blocks p rows d k) (sym block) row) in
            absurd (omega (arith, late, ltb-true (row_of c within) k e))

    good_at : (k : ℕ) → k < length rows → IsGood (array_of io_rat p) blocks (sites_in blocks (take k rows)) (words_at rows k)
    unfolding sites_in is_occupied
    good_at k lt =
        let words = words_at rows k in
        let row = (h.each_row k lt).1 in
        let b = (h.each_row k lt).0 in
        let named = on_is blocks words b row.name in
        let within : b < length blocks = block_within blocks _ b row.name in
        let le : k ≤ length rows = omega (arith, lt) in
        let here : row_of b within ≡ k = is_row_of b within k lt named in
        record {
          form = row.form;
          known = ap is_some row.name;
          once = ap (site_at (sites_in blocks (take k rows))) named ∙ site_here blocks (take k rows) b within ∙ sited b within k le ∙ ap (λ known. cond known (slice_get p.sites b) None) (le-ltb (row_of b within) k (omega (arith, here)));
          fitting = ap (λ c. is_site (array_of io_rat p) (kind_at blocks c) (site_on words)) named ∙ placed.fitting b (site_on words) row.site;
          alone =
              list_any_none (is_on (site_on words)) (sites_in blocks (take k rows))
              (each_mapped (λ site. is_on (site_on words) site ≡ false) (site_in blocks (take k rows)) (length blocks)
              (λ c below. ap (is_on (site_on words)) (sited c below k le) ∙ elsewhere k (site_on words) b row row.site c below (ltb (row_of c below) k) refl (slice_get p.sites c) refl));
        }

    no_fault_before : (k : ℕ) → k ≤ length rows → first_from (array_of io_rat p) blocks rows 0 ≡ first_from (array_of io_rat p) blocks rows k
    no_fault_before zero le = refl
    no_fault_before (suc k) le =
        let lt : k < length rows = omega (arith, le) in
        let array = array_of io_rat p in
        no_fault_before k (omega (arith, le)) ∙ opens array blocks rows k lt
        ∙ ap (λ fault. option_or fault (first_from array blocks rows (k + 1))) (row_faultless array blocks (sites_in blocks (take k rows)) (number_at rows k) (words_at rows k) (good_at k lt))
        ∙ ap (first_from array blocks rows) (add-one k)

    -- none of the rows has a fault
    pub rows_faultless : rows_fault_from (array_of io_rat p) blocks [] rows ≡ None
    unfolding rows_fault_from
    rows_faultless =
        let array = array_of io_rat p in
        let end : first_from array blocks rows (length rows) ≡ rows_fault_from array blocks [] rows = sym (no_fault_before (length rows) (omega arith)) in
        (ended array blocks rows (length rows) (sites_in blocks (take (length rows) rows)) (omega arith) (refl, end)).0

    -- and they give all blocks their sites
    pub rows_give : sites_in blocks rows ≡ map Some p.sites
    rows_give =
        ext_get_or None (sites_in blocks rows) (map Some p.sites) (count_sites blocks rows ∙ sym (length-map p.sites Some ∙ placed.all))
        (λ b lt.
        let within : b < length blocks = subst (λ n. b < n) (count_sites blocks rows) lt in
        let row = (h.each_block b within).1 in
        site_here blocks rows b within ∙ ap (λ all. site_in blocks all b) (sym (take_all (length rows) rows (omega arith))) ∙ sited b within (length rows) (omega arith)
        ∙ ap (λ known. cond known (slice_get p.sites b) None) (lt-ltb (row_of b within) (length rows) row.there)
        ∙ row.site
        ∙ sym (site_of p.sites (map Some p.sites) b (site_on (words_at rows (row_of b within))) refl row.site))

-- ---- rows that are read

some_at : (ys : List Site) (b : ℕ) → get_or (map Some ys) b None ≡ slice_get ys b
some_at [] b = refl
some_at (y ∷ ys) zero = refl
some_at (y ∷ ys) (suc b) = some_at ys b

named_is : (r : Option ℕ) → is_some r ≡ true → r ≡ Some (unwrap_or r 0)
named_is (Some b) e = refl
named_is None e = absurd cc

module _ (array : Array) (blocks : List Block) (rows : List Line) (none : rows_fault_from array blocks [] rows ≡ None) where
  no_fault_from : (k : ℕ) → k ≤ length rows → first_from array blocks rows k ≡ None
  no_fault_from zero le = none
  no_fault_from (suc k) le =
      let lt : k < length rows = omega (arith, le) in
      ap (first_from array blocks rows) (sym (add-one k)) ∙ (both_none (fault_of array blocks rows k) _ (sym (opens array blocks rows k lt) ∙ no_fault_from k (omega (arith, le)))).1

  good : (k : ℕ) → k < length rows → IsGood array blocks (sites_in blocks (take k rows)) (words_at rows k)
  good k lt = good_row array blocks (sites_in blocks (take k rows)) (number_at rows k) (words_at rows k) (both_none (fault_of array blocks rows k) _ (sym (opens array blocks rows k lt) ∙ no_fault_from k (omega (arith, lt)))).0

  abbrev block_at : ℕ → ℕ
  block_at i = block_on blocks (words_at rows i)

  block_below : (i : ℕ) → i < length rows → block_at i < length blocks
  block_below i lt = good_within blocks (words_at rows i) (good i lt).known

  one_more : (k b : ℕ) → k < length rows → site_in blocks (take (suc k) rows) b ≡ option_or (site_in blocks (take k rows) b) (cond (eqb (block_at k) b) (Some (site_on (words_at rows k))) None)
  one_more k b lt = ap (λ n. site_in blocks (take n rows) b) (sym (add-one k)) ∙ ap (λ front. site_in blocks front b) (take_next rows k no_line lt) ∙ site_more blocks (take k rows) (get_or rows k no_line) b

  -- a row's block has its site after it
  reported : (k i : ℕ) → i < k → k ≤ length rows → site_in blocks (take k rows) (block_at i) ≡ Some (site_on (words_at rows i))
  reported zero i lt le = absurd (omega (arith, lt))
  reported (suc k) i lt le =
      let here : k < length rows = omega (arith, le) in
      let below : i ≤ k = omega (arith, lt) in
      elim (eq-or-lt_of_le below) [
        | inl last ↦ (
            let first : site_in blocks (take k rows) (block_at i) ≡ None =
            ap (λ n. site_in blocks (take k rows) (block_at n)) last ∙ sym (site_here blocks (take k rows) (block_at k) (block_below k here)) ∙ (good k here).once in
            one_more k (block_at i) here ∙ rw (first, eq-eqb (block_at k) (block_at i) (ap block_at (sym last))) (ap (λ n. Some (site_on (words_at rows n))) (sym last)))
        | inr less ↦ one_more k (block_at i) here ∙ rw (reported k i less (omega (arith, le))) refl
      ]

  -- a block that has a site has a row that tells it
  has_row : (b : ℕ) (s : Site) (k : ℕ) → k ≤ length rows → site_in blocks (take k rows) b ≡ Some s → (i : ℕ) × (i < k) × (block_at i ≡ b)
  unfolding site_in
  has_row b s zero le e = none_some s e
  has_row b s (suc k) le e =
      let here : k < length rows = omega (arith, le) in
      by_row (site_in blocks (take k rows) b) (eqb (block_at k) b) (site_on (words_at rows k)) s (sym (one_more k b here) ∙ e)
      (λ old. let before = has_row b s k (omega (arith, le)) old in (before.0, omega (arith, before.1), before.2))
      (λ one same. (k, omega arith, eqb-true (block_at k) b one))

  -- two rows don't name one block
  named_once : (i j : ℕ) → i < j → j < length rows → block_at i ≡ block_at j → ⊥
  named_once i j less lt e =
      let free = sym (site_here blocks (take j rows) (block_at j) (block_below j lt)) ∙ (good j lt).once in
      none_some (site_on (words_at rows i)) (sym free ∙ ap (site_in blocks (take j rows)) (sym e) ∙ reported j i less (omega (arith, lt)))

  pub rows_are : (p : Placement) → sites_in blocks rows ≡ map Some p.sites → length p.sites ≡ length blocks → AreRows blocks p rows
  rows_are p give count =
      let site = λ (b : ℕ) (within : b < length blocks). sym (some_at p.sites b) ∙ ap (λ sites. site_at sites b) (sym give) ∙ site_here blocks rows b within ∙ ap (λ all. site_in blocks all b) (sym (take_all (length rows) rows (omega arith))) in
      let row : (i : ℕ) → i < length rows → IsRowOf blocks p rows (block_at i) i = λ i lt. record {
        there = lt;
        form = (good i lt).form;
        name = named_is (block_named blocks (words_at rows i)) (good i lt).known;
        site = site (block_at i) (block_below i lt) ∙ reported (length rows) i lt (omega arith);
      } in
      record {
        each_row = λ i lt. (block_at i, row i lt);
        each_block = λ b within.
            let here = slice_get-get_or p.sites b no_site (omega (arith, within, count)) in
            let found = has_row b (get_or p.sites b no_site) (length rows) (omega arith) (sym (site b within) ∙ here) in
            (found.0, subst (λ c. IsRowOf blocks p rows c found.0) found.2 (row found.0 found.1));
        once = λ b i j one two.
            let same = on_is blocks (words_at rows i) b one.name ∙ sym (on_is blocks (words_at rows j) b two.name) in
            elim (cases_lt i j) [
              | inl less ↦ absurd (named_once i j less two.there same)
              | inr past ↦
                  elim (eq-or-lt_of_le past) [
                    | inl equal ↦ sym equal
                    | inr more ↦ absurd (named_once j i more one.there (sym same))
                  ]
            ];
      }
    where
      no_site : Site
      no_site = record { x = 0; y = 0; subblk = 0 }
