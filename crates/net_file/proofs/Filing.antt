-- Connections filed by net.
use Rattle.std.proofs.Common.{◌≡◌, ◌≢◌, ℕ, zero, suc, ◌+◌, ◌<◌, ◌≤◌, Bool, true, false, cond, ltb, eqb, List, [], ◌∷◌, ◌++◌, length, map, get_or, take, set, flat_map, refl, sym, ap, subst, ◌∙◌, arith, zero-add, length-append}
use Rattle.std.specs.List.{range_with_len}
use Rattle.std.proofs.lemmas.Bool.{ltb-true, ltb-false, eqb-true, eqb-false}
use Rattle.std.proofs.lemmas.List.{append-nil, append_assoc, get_or-set_same, get_or-set_other, length-set, length-map}
use Rattle.std.proofs.lemmas.List.Elements.{filter-append}
use Rattle.std.proofs.lemmas.List.FromFn.{length-range_with_len, get_or-map-range_with_len}
use Rattle.std.proofs.lemmas.Grind.{flat_map-append}
use Rattle.net_file.proofs.Ranges.{below_next}
use Rattle.net_file.specs.declared.connection.Connection.{Connection}
use Rattle.net_file.specs.Connections.{on_net, by_net}
use Rattle.net_file.specs.kept.Rows.{IsFiled, Files, FilesAll}

-- ---- rows without connections

push_default : {X : Type 0} (xs : List X) (d : X) (n : ℕ) → get_or (xs ++ d ∷ []) n d ≡ get_or xs n d
push_default [] d zero = refl
push_default [] d (suc n) = refl
push_default (x ∷ xs) d zero = refl
push_default (x ∷ xs) d (suc n) = push_default xs d n

pub none_more : (rows now : List (List Connection)) (count : ℕ) → now ≡ rows ++ [] ∷ []
    → (length rows ≡ count) × ((n : ℕ) → get_or rows n [] ≡ [])
    → (length now ≡ count + 1) × ((n : ℕ) → get_or now n [] ≡ [])
none_more rows now count more h = (
  ap length more ∙ length-append rows ([] ∷ []) ∙ ap (λ n. n + 1) h.0,
  λ n. ap (λ xs. get_or xs n []) more ∙ push_default rows [] n ∙ h.1 n,
)

-- ---- a connection more

on_more : (before : List Connection) (c : Connection) (n : ℕ) → on_net (before ++ c ∷ []) n ≡ on_net before n ++ cond (eqb c.net n) (c ∷ []) []
unfolding on_net
on_more before c n = filter-append (λ d. eqb d.net n) before (c ∷ [])

on_other : (before : List Connection) (c : Connection) (n : ℕ) → eqb c.net n ≡ false → on_net (before ++ c ∷ []) n ≡ on_net before n
on_other before c n e = on_more before c n ∙ rw e (append-nil (on_net before n))

on_same : (before : List Connection) (c : Connection) (n : ℕ) → eqb c.net n ≡ true → on_net (before ++ c ∷ []) n ≡ on_net before n ++ c ∷ []
on_same before c n e = on_more before c n ∙ rw e refl

apart_by : (i n : ℕ) (b : Bool) → eqb i n ≡ b → n ≢ i → b ≡ false
apart_by i n true e apart = absurd (apart (sym (eqb-true i n e)))
apart_by i n false e apart = refl

apart_from : (i n : ℕ) → n ≢ i → eqb i n ≡ false
apart_from i n apart = apart_by i n (eqb i n) refl apart

filed_here : (before : List Connection) (old : List (List Connection)) (c : Connection) (n : ℕ) (b : Bool) → eqb c.net n ≡ b → c.net < length old → IsFiled before old → n < length old
    → get_or (set old c.net (get_or old c.net [] ++ c ∷ [])) n [] ≡ on_net (before ++ c ∷ []) n
filed_here before old c n true e within filed lt =
    let one : c.net ≡ n = eqb-true c.net n e in
    let more = get_or old c.net [] ++ c ∷ [] in
    ap (λ k. get_or (set old c.net more) k []) (sym one)
    ∙ get_or-set_same old c.net more [] within
    ∙ ap (λ row. row ++ c ∷ []) (filed c.net within ∙ ap (on_net before) one)
    ∙ sym (on_same before c n e)
filed_here before old c n false e within filed lt =
    get_or-set_other old c.net n (get_or old c.net [] ++ c ∷ []) [] (λ h. eqb-false c.net n e (sym h)) ∙ filed n lt ∙ sym (on_other before c n e)

filed_by : (before : List Connection) (old new : List (List Connection)) (c : Connection) (b : Bool) → ltb c.net (length old) ≡ b → new ≡ cond b (set old c.net (get_or old c.net [] ++ c ∷ [])) old
    → (length new ≡ length old) × (IsFiled before old → IsFiled (before ++ c ∷ []) new)
filed_by before old new c true test is =
    let count : length new ≡ length old = ap length is ∙ length-set old c.net (get_or old c.net [] ++ c ∷ []) in (
      count,
      λ filed. λ n lt.
          let within : n < length old = subst (λ k. n < k) count lt in
          ap (λ rows. get_or rows n []) is ∙ filed_here before old c n (eqb c.net n) refl (ltb-true c.net (length old) test) filed within,
    )
filed_by before old new c false test is =
    let count : length new ≡ length old = ap length is in (
      count,
      λ filed. λ n lt.
          let within : n < length old = subst (λ k. n < k) count lt in
          let past : length old ≤ c.net = ltb-false c.net (length old) test in
          let apart : n ≢ c.net = λ h. absurd (omega (arith, past, within, h)) in
          ap (λ rows. get_or rows n []) is ∙ filed n within ∙ sym (on_other before c n (apart_from c.net n apart)),
    )

pub files_more : (old mid new : List (List Connection)) (added : List Connection) (c : Connection) → FilesAll old mid added → Files mid new c → FilesAll old new (added ++ c ∷ [])
files_more old mid new added c all one =
    let step = λ (before : List Connection). filed_by before mid new c (ltb c.net (length mid)) refl one in
    record {
      count = (step []).0 ∙ all.count;
      filed = λ before filed. subst (λ cs. IsFiled cs new) (append_assoc before added (c ∷ [])) ((step (before ++ added)).1 (all.filed before filed));
    }

-- ---- the rows of all connections

pub none_filed : (rows : List (List Connection)) → ((n : ℕ) → get_or rows n [] ≡ []) → IsFiled [] rows
unfolding on_net
none_filed rows empty = λ n lt. empty n

pub flat_next : {X : Type 0} (g : ℕ → List X) (n : ℕ) → flat_map g (range_with_len 0 (n + 1)) ≡ flat_map g (range_with_len 0 n) ++ g n
flat_next g n = ap (flat_map g) (below_next n) ∙ flat_map-append g (range_with_len 0 n) (n ∷ []) ∙ ap (λ xs. flat_map g (range_with_len 0 n) ++ xs) (append-nil (g n))

pub block_filed : (old new : List (List Connection)) (g : ℕ → List Connection) (n count : ℕ) (added : List Connection) → added ≡ g n → FilesAll old new added
    → (length old ≡ count) × IsFiled (flat_map g (range_with_len 0 n)) old
    → (length new ≡ count) × IsFiled (flat_map g (range_with_len 0 (n + 1))) new
block_filed old new g n count added is all h =
    (all.count ∙ h.0, subst (λ cs. IsFiled cs new) (ap (λ xs. flat_map g (range_with_len 0 n) ++ xs) is ∙ sym (flat_next g n)) (all.filed (flat_map g (range_with_len 0 n)) h.1))

same_lists : {X : Type 0} (xs ys : List X) (d : X) → length xs ≡ length ys → ((n : ℕ) → n < length xs → get_or xs n d ≡ get_or ys n d) → xs ≡ ys
same_lists [] [] d e h = refl
same_lists [] (y ∷ ys) d e h = absurd (omega (arith, e))
same_lists (x ∷ xs) [] d e h = absurd (omega (arith, e))
same_lists (x ∷ xs) (y ∷ ys) d e h =
    let rest : length xs ≡ length ys = omega (arith, e) in
    let first : x ≡ y = h 0 (omega arith) in
    rw first (ap (λ zs. y ∷ zs) (same_lists xs ys d rest (λ n lt. h (suc n) (omega (arith, lt)))))

pub all_filed : (connections : List Connection) (rows : List (List Connection)) (count : ℕ) → (length rows ≡ count) × IsFiled connections rows → rows ≡ by_net connections count
unfolding by_net
all_filed connections rows count h =
    let wanted = map (on_net connections) (range_with_len 0 count) in
    let long : length wanted ≡ count = length-map (range_with_len 0 count) (on_net connections) ∙ length-range_with_len 0 count in
    same_lists rows wanted [] (h.0 ∙ sym long)
    (λ n lt. let below : n < count = subst (λ k. n < k) h.0 lt in h.1 n lt ∙ sym (get_or-map-range_with_len (on_net connections) 0 count n n [] below (zero-add n)))

-- what was written over the whole of a list
take_front : {X : Type 0} (xs ys : List X) → take (length xs) (xs ++ ys) ≡ xs
take_front [] ys = refl
take_front (x ∷ xs) ys = ap (λ zs. x ∷ zs) (take_front xs ys)

pub block_written : (old new rest : List (List Connection)) (g : ℕ → List Connection) (n count len : ℕ) (added : List Connection) → added ≡ g n → FilesAll old new added → len ≡ length old
    → (length old ≡ count) × IsFiled (flat_map g (range_with_len 0 n)) old
    → (length (take len (new ++ rest)) ≡ count) × IsFiled (flat_map g (range_with_len 0 (n + 1))) (take len (new ++ rest))
block_written old new rest g n count len added is all whole h =
    let size : len ≡ length new = whole ∙ sym all.count in
    let same : new ≡ take len (new ++ rest) = sym (ap (λ k. take k (new ++ rest)) size ∙ take_front new rest) in
    subst (λ rows. (length rows ≡ count) × IsFiled (flat_map g (range_with_len 0 (n + 1))) rows) same (block_filed old new g n count added is all h)
