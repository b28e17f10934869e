-- The pins that are left to a terminal, by their numbers; and tests on lists that were filtered or
-- mapped, as tests on the lists before.
use Rattle.std.proofs.Common.{◌≡◌, ℕ, Bool, true, false, not, ◌&&◌, ◌||◌, cond, if◌then◌else◌, List, [], ◌∷◌, length, map, Option, Some, None, refl, sym, ap, ap₂, ◌∙◌}
use Rattle.std.specs.Prelude.{slice_get}
use Rattle.std.specs.List.{filter, filter_map, list_any, list_all, cons_option}
use Rattle.std.specs.Option.{option_map, option_map_or}
use Rattle.arch_file.specs.declared.entries.Direction.{Direction}
use Rattle.arch_file.specs.declared.entries.Direction.TheVariants.{Input, Output}
use Rattle.rr_graph.specs.node.Kind.{Kind}
use Rattle.rr_graph.specs.node.Kind.TheVariants.{Opin, Ipin}
use Rattle.rr_graph.specs.node.Node.{Node}
use Rattle.rr_graph.specs.Fabric.{Fabric, is_block, is_pad, numbers_below}
use Rattle.rr_graph.specs.Pins.{belongs, has_direction, pins_of}
use Rattle.rr_graph.specs.Nodes.{node_at, node_of, numbers_at}
use Rattle.width_bound.specs.Cuts.{Cut, is_cut, is_given_up, is_parted_from, pins_left, share_side}
use Rattle.width_bound.specs.kept.Terminals.{is_left, pin_count}
use Rattle.width_bound.proofs.Lists.{any_alike}

any_here : (d p t rest : Bool) → (cond d (cond p (t || rest) rest) rest) ≡ (((d && p) && t) || rest)
any_here true true t rest = refl
any_here true false t rest = refl
any_here false p t rest = refl

module _ {X Y : Type 0} (g : X → Y) (test : Y → Bool) (t : Y → Bool) where
  moved_in : (p : Bool) (y : Y) (ys : List Y) → list_any t (cond p (y ∷ ys) ys) ≡ cond p (t y || list_any t ys) (list_any t ys)
  moved_in true y ys = refl
  moved_in false y ys = refl

  kept_first : (d : Bool) (x : X) (xs : List X) → list_any t (filter test (map g (cond d (x ∷ xs) xs))) ≡ cond d (list_any t (filter test (g x ∷ map g xs))) (list_any t (filter test (map g xs)))
  kept_first true x xs = refl
  kept_first false x xs = refl

  -- what passes two filters, with a function between them
  pub any_kept : (d : X → Bool) (xs : List X) → list_any t (filter test (map g (filter d xs))) ≡ list_any (λ x. (d x && test (g x)) && t (g x)) xs
  any_kept d [] = refl
  any_kept d (x ∷ xs) =
      let rest = list_any t (filter test (map g (filter d xs))) in
      kept_first (d x) x (filter d xs)
      ∙ ap (λ r. cond (d x) r rest) (moved_in (test (g x)) (g x) (filter test (map g (filter d xs))))
      ∙ any_here (d x) (test (g x)) (t (g x)) rest
      ∙ ap (λ r. ((d x && test (g x)) && t (g x)) || r) (any_kept d xs)

  pub any_mapped : (xs : List X) → list_any t (filter test (map g xs)) ≡ list_any (λ x. (true && test (g x)) && t (g x)) xs
  any_mapped [] = refl
  any_mapped (x ∷ xs) =
      moved_in (test (g x)) (g x) (filter test (map g xs))
      ∙ any_here true (test (g x)) (t (g x)) (list_any t (filter test (map g xs)))
      ∙ ap (λ r. ((true && test (g x)) && t (g x)) || r) (any_mapped xs)

not_or : (a b : Bool) → (not (not a) && not b) ≡ not (not a || b)
not_or true b = refl
not_or false b = refl

not_not : (a : Bool) → a ≡ not (not a)
not_not true = refl
not_not false = refl

-- all pass where none fails
pub all_by_any : {X : Type 0} (t : X → Bool) (xs : List X) → list_all t xs ≡ not (list_any (λ x. not (t x)) xs)
all_by_any t [] = refl
all_by_any t (x ∷ xs) = ap₂ (λ a b. a && b) (not_not (t x)) (all_by_any t xs) ∙ not_or (t x) (list_any (λ y. not (t y)) xs)

pub any_found_in : {X Y : Type 0} (g : X → Option Y) (t : Y → Bool) (xs : List X) → list_any t (filter_map g xs) ≡ list_any (λ x. option_map_or t (g x) false) xs
any_found_in g t [] = refl
any_found_in {X} {Y} g t (x ∷ xs) = at (g x) ∙ ap (λ r. option_map_or t (g x) false || r) (any_found_in g t xs)
  where
    at : (o : Option Y) → list_any t (cons_option o (filter_map g xs)) ≡ (option_map_or t o false || list_any t (filter_map g xs))
    at None = refl
    at (Some y) = refl

module _ (f : Fabric) (cut : Cut) (terminal : Node) where
  by_number : (kind : Kind) (direction : Direction) (t : Node → Bool) (block pad : Bool) →
      list_any t (filter (λ pin. belongs f pin terminal && not (is_given_up cut pin)) (map (node_of kind terminal.x terminal.y)
      (if block then pins_of f.architecture direction else (if pad then numbers_below f.architecture.io_rat else []))))
      ≡ list_any (λ i. ((if block then has_direction direction (option_map (λ q. q.direction) (slice_get f.architecture.pins i)) else true)
      && (belongs f (node_of kind terminal.x terminal.y i) terminal && not (is_given_up cut (node_of kind terminal.x terminal.y i)))) && t (node_of kind terminal.x terminal.y i))
      (numbers_below (if block then length f.architecture.pins else (if pad then f.architecture.io_rat else 0)))
  unfolding pins_of
  by_number kind direction t true pad =
      any_kept (node_of kind terminal.x terminal.y) (λ pin. belongs f pin terminal && not (is_given_up cut pin)) t
      (λ i. has_direction direction (option_map (λ q. q.direction) (slice_get f.architecture.pins i))) (numbers_below (length f.architecture.pins))
  by_number kind direction t false true = any_mapped (node_of kind terminal.x terminal.y) (λ pin. belongs f pin terminal && not (is_given_up cut pin)) t (numbers_below f.architecture.io_rat)
  by_number kind direction t false false = refl

  pub any_output : (t : Node → Bool) → list_any t (pins_left f cut Opin terminal) ≡ list_any (λ i. is_left f cut Opin terminal i && t (node_of Opin terminal.x terminal.y i)) (numbers_below (pin_count f terminal.x terminal.y))
  unfolding pins_left numbers_at
  any_output t = by_number Opin Output t (is_block f terminal.x terminal.y) (is_pad f terminal.x terminal.y)

  pub any_input : (t : Node → Bool) → list_any t (pins_left f cut Ipin terminal) ≡ list_any (λ i. is_left f cut Ipin terminal i && t (node_of Ipin terminal.x terminal.y i)) (numbers_below (pin_count f terminal.x terminal.y))
  unfolding pins_left numbers_at
  any_input t = by_number Ipin Input t (is_block f terminal.x terminal.y) (is_pad f terminal.x terminal.y)

-- what was asked of each number is so of the pins that are left
pub way_in : (f : Fabric) (cut : Cut) (output sink : Node) (count : ℕ) (b : Bool) → count ≡ pin_count f sink.x sink.y →
    b ≡ list_any (λ i. is_left f cut Ipin sink i && share_side f cut output (node_of Ipin sink.x sink.y i)) (numbers_below count) →
    b ≡ list_any (share_side f cut output) (pins_left f cut Ipin sink)
way_in f cut output sink count b e h =
    h ∙ ap (λ n. list_any (λ i. is_left f cut Ipin sink i && share_side f cut output (node_of Ipin sink.x sink.y i)) (numbers_below n)) e
    ∙ sym (any_input f cut sink (share_side f cut output))

-- some of the nodes is a sink that is parted from the output pin of this number
abbrev pub some_parted : Fabric → Cut → (source : Node) → (sinks : List ℕ) → (number : ℕ) → Bool
some_parted f cut source sinks i = list_any (λ s. option_map_or (is_parted_from f cut (node_of Opin source.x source.y i)) (node_at f s) false) sinks

pub no_way_out : (f : Fabric) (cut : Cut) (source : Node) (sinks : List ℕ) (count : ℕ) (b : Bool) → count ≡ pin_count f source.x source.y →
    b ≡ list_any (λ i. is_left f cut Opin source i && not (some_parted f cut source sinks i)) (numbers_below count) →
    not b ≡ is_cut f cut source (filter_map (node_at f) sinks)
unfolding is_cut
no_way_out f cut source sinks count b e h =
    let parted : Node → Bool = λ o. list_any (is_parted_from f cut o) (filter_map (node_at f) sinks) in
    ap not (h ∙ any_alike (λ i. is_left f cut Opin source i && not (some_parted f cut source sinks i)) (λ i. is_left f cut Opin source i && not (parted (node_of Opin source.x source.y i)))
    (λ i. ap (λ c. is_left f cut Opin source i && not c) (sym (any_found_in (node_at f) (is_parted_from f cut (node_of Opin source.x source.y i)) sinks))) (numbers_below count)
    ∙ ap (λ n. list_any (λ i. is_left f cut Opin source i && not (parted (node_of Opin source.x source.y i))) (numbers_below n)) e
    ∙ sym (any_output f cut source (λ o. not (parted o))))
    ∙ sym (all_by_any parted (pins_left f cut Opin source))
