-- Where nodes stand first, and which are among those before a place.
use Rattle.std.proofs.Common.{◌≡◌, ℕ, ◌+◌, ◌<◌, ◌≤◌, ◌==◌, zero, suc, Bool, true, false, cond, ◌||◌, List, [], ◌∷◌, ◌++◌, length, get_or, take, Option, None, Some, refl, sym, ap, ◌∙◌, arith}
use Rattle.std.specs.Prelude.{is_some, nat_lt}
use Rattle.std.specs.List.{list_any, position_from}
use Rattle.std.specs.Option.{option_or}
use Rattle.std.proofs.lemmas.List.{length-take-le, take_more}
use Rattle.route_tree.specs.Legality.{is_among}
use Rattle.route_tree.specs.Paths.{Pair, ends_of}
use Rattle.route_explain.specs.Steps.{begins_at, begins_of, ends_at, ends_before}
use Rattle.route_explain.specs.declared.index.NetIndex.{NetIndex}
use Rattle.route_explain.specs.declared.places.Places.{Places}
use Rattle.route_explain.specs.kept.Places.{ArePlaces, HasMore, IsIndex, first_place, is_before, place_in, with_place}
use Rattle.net_file.proofs.Numbered.{position_is_any}

-- a node has a place where it is among the nodes
pub placed_is_among : (nodes : List ℕ) (a : ℕ) → is_some (first_place nodes a) ≡ is_among nodes a
placed_is_among nodes a = position_is_any (λ b. b == a) 0 nodes

not_below : (k j : ℕ) → k ≤ j → nat_lt j k ≡ false
not_below k j l = grind (arith)

late_by : (b : Bool) (j k : ℕ) (r : Option ℕ) → k ≤ j → is_before r k ≡ false → is_before (cond b (Some j) r) k ≡ false
late_by true j k r l e = not_below k j l
late_by false j k r l e = e

none_before : (p : ℕ → Bool) (j k : ℕ) (xs : List ℕ) → k ≤ j → is_before (position_from p j xs) k ≡ false
none_before p j k [] l = refl
none_before p j k (x ∷ xs) l = late_by (p x) j k (position_from p (j + 1) xs) l (none_before p (j + 1) k xs (omega (arith, l)))

early_by : (b : Bool) (j n : ℕ) (r : Option ℕ) (c : Bool) → j < n → c ≡ is_before r n → (b || c) ≡ is_before (cond b (Some j) r) n
early_by true j n r c l e = grind (arith)
early_by false j n r c l e = e

before_is_any : (p : ℕ → Bool) (j k : ℕ) (xs : List ℕ) → list_any p (take k xs) ≡ is_before (position_from p j xs) (j + k)
before_is_any p j zero xs = sym (none_before p j (j + zero) xs (omega arith))
before_is_any p j (suc k) [] = refl
before_is_any p j (suc k) (x ∷ xs) =
    let next : (j + 1) + k ≡ j + suc k = omega arith in
    early_by (p x) j (j + suc k) (position_from p (j + 1) xs) (list_any p (take k xs)) (omega arith)
    (before_is_any p (j + 1) k xs ∙ ap (is_before (position_from p (j + 1) xs)) next)

-- a node has a place before k where it is among the first k nodes
pub placed_before : (nodes : List ℕ) (k a : ℕ) → is_before (first_place nodes a) k ≡ is_among (take k nodes) a
placed_before nodes k a = sym (before_is_any (λ b. b == a) 0 k nodes ∙ ap (is_before (first_place nodes a)) (omega arith))

-- ---- one node more
pushed_by : (b t : Bool) (j m n : ℕ) (r s : Option ℕ) → m ≡ n → s ≡ option_or r (cond t (Some m) None) → cond b (Some j) s ≡ option_or (cond b (Some j) r) (cond t (Some n) None)
pushed_by true t j m n r s same e = refl
pushed_by false t j m n r s same e = e ∙ ap (λ k. option_or r (cond t (Some k) None)) same

position_push : (p : ℕ → Bool) (j : ℕ) (xs : List ℕ) (x : ℕ) → position_from p j (xs ++ x ∷ []) ≡ option_or (position_from p j xs) (cond (p x) (Some (j + length xs)) None)
position_push p j [] x = let e : j + 0 ≡ j = omega arith in rw e refl
position_push p j (y ∷ ys) x =
    pushed_by (p y) (p x) j ((j + 1) + length ys) (j + suc (length ys)) (position_from p (j + 1) ys) (position_from p (j + 1) (ys ++ x ∷ [])) (omega arith) (position_push p (j + 1) ys x)

pub places_more : (nodes : List ℕ) (i x : ℕ) (old new : Places) → i < length nodes → x ≡ get_or nodes i x → ArePlaces (take i nodes) old → HasMore old new x i → ArePlaces (take (i + 1) nodes) new
places_more nodes i x old new below is are more = λ a.
    more a
    ∙ ap (λ o. with_place o x i a) (are a)
    ∙ ap (λ y. option_or (first_place (take i nodes) a) (cond (y == a) (Some i) None)) is
    ∙ ap (λ n. option_or (first_place (take i nodes) a) (cond (get_or nodes i x == a) (Some n) None)) (sym size)
    ∙ sym (position_push (λ b. b == a) 0 (take i nodes) (get_or nodes i x))
    ∙ ap (λ ys. first_place ys a) (sym (take_more nodes i x below))
  where
    size : 0 + length (take i nodes) ≡ i
    size = let l = length-take-le i nodes (omega (arith, below)) in omega (arith, l)

-- ---- what an index tells of a list
module _ (sinks : List ℕ) (pairs : List Pair) (x : NetIndex) (is : IsIndex sinks pairs x) (a : ℕ) where
  pub begins_there : is_some (place_in x.begins a) ≡ begins_at pairs a
  begins_there = ap is_some (is.begins a) ∙ placed_is_among (begins_of pairs) a

  pub ends_there : is_some (place_in x.ends a) ≡ ends_at pairs a
  ends_there = ap is_some (is.ends a) ∙ placed_is_among (ends_of pairs) a

  pub ends_earlier : (k : ℕ) → is_before (place_in x.ends a) k ≡ ends_before pairs k a
  ends_earlier k = ap (λ o. is_before o k) (is.ends a) ∙ placed_before (ends_of pairs) k a

  pub among_sinks : is_some (place_in x.sinks a) ≡ is_among sinks a
  among_sinks = ap is_some (is.own a) ∙ placed_is_among sinks a
