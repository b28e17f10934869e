-- Sites and their places in the table.
use Rattle.std.proofs.Common.{◌≡◌, ℕ, ◌<◌, Bool, true, false, ◌||◌, List, [], ◌∷◌, length, map, get_or, set, replicate, Option, Some, None, refl, sym, ap, subst, ◌∙◌, arith, ◌≢◌}
use Rattle.std.specs.Prelude.{IfSome}
use Rattle.std.specs.List.{list_any}
use Rattle.std.proofs.lemmas.Bool.Decides.{nat_tests}
use Rattle.std.proofs.lemmas.List.{get_or-set_same, get_or-set_other, get_or-replicate, length-map, length-set, length-replicate}
use Rattle.std.proofs.lemmas.Bool.{true≢false}
use Rattle.std.proofs.Math.Bool.{or-false}
use Rattle.arch_file.proofs.Lists.{any_set}
use Rattle.net_file.specs.declared.terminal.BlockKind.{BlockKind}
use Rattle.net_file.specs.declared.terminal.BlockKind.TheVariants.{InputPad, OutputPad, LogicBlock}
use Rattle.net_file.specs.Facts.{names_of_blocks}
use Rattle.net_file.specs.Names.{number_among}
use Rattle.net_file.specs.Netlist.{Block}
use Rattle.net_file.proofs.Distinct.{number_below}
use Rattle.place_file.specs.declared.site.Array.{Array}
use Rattle.place_file.specs.declared.site.Site.{Site}
use Rattle.place_file.specs.kept.OccupiedSites.{IsFit, IsTable, is_in_table, entry_of, table_size}
use Rattle.place_file.specs.Placement.{is_site}
use Rattle.place_file.specs.Sites.{same_site, is_on, is_occupied}

-- the number of a block's name is that of a block
pub block_within : (blocks : List Block) (name : List ℕ) (b : ℕ) → number_among (names_of_blocks blocks) name ≡ Some b → b < length blocks
block_within blocks name b e =
    subst (λ n. b < n) (length-map blocks (λ b. b.name)) (subst (λ r. IfSome r (λ n. n < length (names_of_blocks blocks))) e (number_below (names_of_blocks blocks) name))

-- a site of an array is in the table
pub site_in_table : (a : Array) (kind : BlockKind) (s : Site) → IsFit a → is_site a kind s ≡ true → is_in_table a s ≡ true
unfolding is_site
site_in_table a LogicBlock s fit e = grind (arith, nat_tests, e, fit.pads, fit.columns, fit.rows)
site_in_table a InputPad s fit e = grind (arith, nat_tests, e, fit.pads, fit.columns, fit.rows)
site_in_table a OutputPad s fit e = grind (arith, nat_tests, e, fit.pads, fit.columns, fit.rows)

-- ---- the table of sites

pub entry_within : (a : Array) (s : Site) → is_in_table a s ≡ true → entry_of s < table_size a
entry_within a s e = grind (arith, nat_tests, e)

-- an entry of the table has a column, a row and a position
pub entry_parts : (a : Array) (s : Site) → IsFit a → is_in_table a s ≡ true → (s.x < 102) × (s.y < 102) × (s.subblk < 16)
entry_parts a s fit e = (grind (arith, nat_tests, e, fit.columns), grind (arith, nat_tests, e), grind (arith, nat_tests, e))

-- different sites have different entries
one_from_entries : (a : Array) (s t : Site) → is_in_table a s ≡ true → is_in_table a t ≡ true → entry_of s ≡ entry_of t → same_site s t ≡ true
one_from_entries a s t i j e = grind (arith, nat_tests, i, j, e)

entries_from_one : (s t : Site) → same_site s t ≡ true → entry_of s ≡ entry_of t
entries_from_one s t e = grind (arith, nat_tests, e)

none_on : {X : Type 0} (s : Site) (xs : List X) → list_any (is_on s) (map (λ _. None) xs) ≡ false
none_on s [] = refl
none_on s (x ∷ xs) = none_on s xs

pub none_taken : {X : Type 0} (a : Array) (xs : List X) (taken : List Bool) → taken ≡ replicate (table_size a) false → IsTable a (map (λ _. None) xs) taken
unfolding is_occupied
none_taken a xs taken e =
    record {
      size = ap length e ∙ length-replicate (table_size a) false;
      tells = λ s i. ap (λ t. get_or t (entry_of s) false) e ∙ get_or-replicate (table_size a) (entry_of s) false false (entry_within a s i) ∙ sym (none_on s xs);
    }

put_among : (p : Option Site → Bool) (xs : List (Option Site)) (b : ℕ) (t : Option Site) → b < length xs → get_or xs b None ≡ None → p None ≡ false → list_any p (set xs b t) ≡ (p t || list_any p xs)
put_among p xs b t within free none =
    let skip : p (get_or xs b None) ≡ false = ap p free ∙ none in
    any_set p (p t) xs b None t within (rw skip (sym (or-false (p t))))

tells_more : (a : Array) (xs : List (Option Site)) (taken : List Bool) (t s : Site) (one : Bool) → same_site s t ≡ one → is_in_table a t ≡ true → is_in_table a s ≡ true → IsTable a xs taken
    → get_or (set taken (entry_of t) true) (entry_of s) false ≡ (one || list_any (is_on s) xs)
unfolding is_occupied
tells_more a xs taken t s true e j i table =
    let within : entry_of t < length taken = subst (λ n. entry_of t < n) (sym table.size) (entry_within a t j) in
    ap (λ n. get_or (set taken (entry_of t) true) n false) (entries_from_one s t e) ∙ get_or-set_same taken (entry_of t) true false within
tells_more a xs taken t s false e j i table =
    let apart : entry_of s ≢ entry_of t = λ h. true≢false (sym (one_from_entries a s t i j h) ∙ e) in
    get_or-set_other taken (entry_of t) (entry_of s) true false apart ∙ table.tells s i

pub one_taken : (a : Array) (xs : List (Option Site)) (taken : List Bool) (b : ℕ) (t : Site) (entry : ℕ) → entry ≡ entry_of t → IsTable a xs taken → b < length xs → get_or xs b None ≡ None → is_in_table a t ≡ true → IsTable a (set xs b (Some t)) (set taken entry true)
unfolding is_occupied
one_taken a xs taken b t entry is table within free j =
    rw is (record {
      size = length-set taken (entry_of t) true ∙ table.size;
      tells = λ s i. tells_more a xs taken t s (same_site s t) refl j i table ∙ sym (put_among (is_on s) xs b (Some t) within free refl);
    })
