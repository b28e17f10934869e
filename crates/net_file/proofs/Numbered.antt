-- Names and their numbers.
use Rattle.std.proofs.Common.{◌≡◌, ℕ, ◌+◌, Bool, true, false, cond, ◌||◌, List, [], ◌∷◌, ◌++◌, length, Option, Some, refl, sym, ap, subst, ◌∙◌, arith, Bor}
use Rattle.std.specs.Prelude.{is_some}
use Rattle.std.specs.Bool.{one_answer}
use Rattle.std.specs.BTreeMap.{BTreeMap, UpdatesBy}
use Rattle.std.specs.Cmp.Lexicographic.{slice_cmp}
use Rattle.std.specs.List.{list_any, position_from}
use Rattle.std.specs.Ordering.{nat_cmp}
use Rattle.std.specs.Str.{bytes_eq}
use Rattle.std.proofs.lemmas.List.{map-append, length-map}
use Rattle.std.proofs.lemmas.Map.Text.{btree_map_updates_str}
use Rattle.std.proofs.lemmas.Slice.Eq.{bytes_eq-Decides}
use Rattle.std.proofs.lemmas.Bool.{or_parts}
use Rattle.net_file.specs.kept.NameNumbers.{names_in, AreNumbered}
use Rattle.net_file.specs.Names.{number_among, is_among, with_name}

-- ---- when two names are one

pub one_from_same : (a b : List ℕ) → bytes_eq a b ≡ true → a ≡ b
one_from_same a b e = (bytes_eq-Decides a b).0 e

pub same_itself : (a : List ℕ) → bytes_eq a a ≡ true
same_itself a = (bytes_eq-Decides a a).1 refl

same_both : (a b : List ℕ) → bytes_eq a b ≡ bytes_eq b a
same_both a b = one_answer (bytes_eq a b) (bytes_eq b a) (bytes_eq-Decides a b) (λ e. sym (one_from_same b a e), λ e. (bytes_eq-Decides b a).1 (sym e))

-- ---- the place of a name

pub position_is_any : {X : Type 0} (p : X → Bool) (k : ℕ) (xs : List X) → is_some (position_from p k xs) ≡ list_any p xs
position_is_any p k [] = refl
position_is_any p k (x ∷ xs) = one_more (p x) k (position_from p (k + 1) xs) (list_any p xs) (position_is_any p (k + 1) xs)
  where
    one_more : (b : Bool) (k : ℕ) (r : Option ℕ) (c : Bool) → is_some r ≡ c → is_some (cond b (Some k) r) ≡ (b || c)
    one_more true k r c e = refl
    one_more false k r c e = e

-- a name that is there has a number
pub numbered : (names : List (List ℕ)) (name : List ℕ) → is_some (number_among names name) ≡ is_among names name
unfolding number_among is_among
numbered names name = position_is_any (bytes_eq name) 0 names

position_new : (p : List ℕ → Bool) (k : ℕ) (names : List (List ℕ)) (x : List ℕ) → list_any p names ≡ false → p x ≡ true → position_from p k (names ++ x ∷ []) ≡ Some (k + length names)
position_new p k [] x none here = let e : k + 0 ≡ k = omega arith in rw (here, e) refl
position_new p k (y ∷ ys) x none here =
    let split = or_parts (p y) (list_any p ys) none in
    let next : (k + 1) + length ys ≡ k + length (y ∷ ys) = omega arith in
    rw split.0 (position_new p (k + 1) ys x split.1 here ∙ ap Some next)

position_other : (p : List ℕ → Bool) (k : ℕ) (names : List (List ℕ)) (x : List ℕ) → p x ≡ false → position_from p k (names ++ x ∷ []) ≡ position_from p k names
position_other p k [] x apart = rw apart refl
position_other p k (y ∷ ys) x apart = ap (cond (p y) (Some k)) (position_other p (k + 1) ys x apart)

pub number_push : (names : List (List ℕ)) (x name : List ℕ) (b : Bool) → bytes_eq x name ≡ b → is_among names x ≡ false → number_among (names ++ x ∷ []) name ≡ cond b (Some (length names)) (number_among names name)
unfolding number_among is_among
number_push names x name true e new =
    let one = one_from_same x name e in
    subst (λ y. position_from (bytes_eq y) 0 (names ++ x ∷ []) ≡ Some (length names)) one (position_new (bytes_eq x) 0 names x new (same_itself x) ∙ ap Some (omega arith))
number_push names x name false e new = position_other (bytes_eq name) 0 names x (sym (same_both x name) ∙ e)

-- ---- how names are kept

pub none_numbered : (refs : List (Bor (List ℕ))) (m : BTreeMap (Bor (List ℕ)) ℕ) → refs ≡ [] → m.entries ≡ [] → AreNumbered refs m
unfolding number_among
none_numbered refs m e h = λ name. rw (e, h) refl

pub numbered_push : (refs now : List (Bor (List ℕ))) (r : Bor (List ℕ)) (m n : BTreeMap (Bor (List ℕ)) ℕ) (number : ℕ)
    → AreNumbered refs m
    → is_among (names_in refs) r.now ≡ false
    → UpdatesBy (λ x y. slice_cmp nat_cmp x.now y.now) (λ k. slice_cmp nat_cmp r.now k.now) m n (Some number)
    → number ≡ length refs
    → now ≡ refs ++ r ∷ []
    → AreNumbered now n
numbered_push refs now r m n number before new updates is more = λ name.
    let after = btree_map_updates_str r.now m n (Some number) updates name in
    let pushed = number_push (names_in refs) r.now name (bytes_eq r.now name) refl new in
    let count : length (names_in refs) ≡ length refs = length-map refs (λ r. r.now) in
    rw (more, map-append (λ r. r.now) refs (r ∷ []), pushed, after, count, before name, is) refl

pub numbered_still : (refs now : List (Bor (List ℕ))) (m n : BTreeMap (Bor (List ℕ)) ℕ) → now ≡ refs → n.entries ≡ m.entries → AreNumbered refs m → AreNumbered now n
numbered_still refs now m n same kept before = λ name. rw (same, kept) (before name)

-- ---- a name more

pub pushed : (names : List (List ℕ)) (name : List ℕ) → is_among names name ≡ false → with_name names name ≡ names ++ name ∷ []
unfolding with_name
pushed names name e = rw e refl

pub kept : (names : List (List ℕ)) (name : List ℕ) → is_among names name ≡ true → with_name names name ≡ names
unfolding with_name
kept names name e = rw e refl

pub names_pushed : (names : List (List ℕ)) (refs now : List (Bor (List ℕ))) (r : Bor (List ℕ)) → names_in refs ≡ names → now ≡ refs ++ r ∷ [] → is_among names r.now ≡ false → names_in now ≡ with_name names r.now
names_pushed names refs now r are more new = ap names_in more ∙ map-append (λ r. r.now) refs (r ∷ []) ∙ ap (λ xs. xs ++ r.now ∷ []) are ∙ sym (pushed names r.now new)
