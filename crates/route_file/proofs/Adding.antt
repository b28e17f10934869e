-- What is kept of the lines, with a line more.
use Rattle.std.proofs.Common.{◌≡◌, ◌≢◌, ℕ, ◌<◌, Bool, true, false, not, ◌||◌, cond, eqb, List, [], ◌∷◌, ◌++◌, length, get_or, set, Option, Some, None, Ok, refl, sym, ap, subst, ◌∙◌, arith}
use Rattle.std.specs.List.{list_any, last_or}
use Rattle.std.proofs.lemmas.Bool.{eqb-true, eqb-false, eq-eqb, ne_eqb, or_left, or_right, both_ways}
use Rattle.std.proofs.lemmas.List.{length-set, get_or-set_same, get_or-set_other}
use Rattle.std.proofs.lemmas.Option.{same_Some}
use Rattle.std.proofs.Math.Bool.{or-false}
use Rattle.vpr_text.specs.Words.{Line}
use Rattle.net_file.specs.Netlist.{Netlist}
use Rattle.net_file.specs.Routed.{is_routed_at}
use Rattle.rr_graph.specs.Fabric.{Fabric}
use Rattle.rr_graph.specs.Nodes.{node_count_of}
use Rattle.route_tree.specs.Legality.{is_among}
use Rattle.route_tree.specs.Paths.{Pair}
use Rattle.route_file.specs.declared.entry.FileEntry.{FileEntry}
use Rattle.route_file.specs.declared.seen.Seen.{Seen}
use Rattle.route_file.specs.Judge.{is_detached, judge}
use Rattle.route_file.specs.NetLine.{is_net_line, is_global_at, net_on}
use Rattle.route_file.specs.NodeLine.{node_on}
use Rattle.route_file.specs.kept.LinesSeen.{IsSeen, NotesNet, NotesNode, Notes, no_owner, routed_list, pair_after, list_more}
use Rattle.route_file.specs.Sections.{is_net, is_line_of, had_line, latest, lines_after, nodes_in, list_along, list_of_net}
use Rattle.route_file.proofs.Growing.{any_push, after_more, after_none_more, latest_more, had_more, section_net, section_other, section_here, nodes_same, nodes_none, nodes_more, last_push, among_push, list_push}
use Rattle.route_file.proofs.Judged.{net_within, net_is, section_is}

clash : {P : Type 0} (b : Bool) → b ≡ true → b ≡ false → P
clash b t f = absurd (both_ways b f t)

apart : (n m : ℕ) → eqb n m ≡ false → m ≢ n
apart n m e h = eqb-false n m e (sym h)

list_same : (netlist : Netlist) (f : Fabric) (one other : List Line) (n : ℕ) → nodes_in netlist f one n ≡ nodes_in netlist f other n → list_of_net netlist f one n ≡ list_of_net netlist f other n
unfolding list_of_net
list_same netlist f one other n e = ap (list_along f) e

routed_same : (netlist : Netlist) (f : Fabric) (one other : List Line) (n : ℕ) (t : Bool) → (t ≡ true → nodes_in netlist f one n ≡ nodes_in netlist f other n) → cond t (list_of_net netlist f one n) None ≡ cond t (list_of_net netlist f other n) None
routed_same netlist f one other n true h = list_same netlist f one other n (h refl)
routed_same netlist f one other n false h = refl

-- ---- the line of a net

module _ (netlist : Netlist) (f : Fabric) (before : List Line) (l : Line) where
  abbrev now : List Line
  now = before ++ l ∷ []

  record IsNew (n : ℕ) : Type 0 where
    is_net : is_net_line l ≡ true
    named : net_on netlist l.words ≡ Some n
    new : had_line netlist before n ≡ false

  latest_new : (n : ℕ) → IsNew n → latest netlist now ≡ Some n
  latest_new n h = latest_more netlist before l ∙ ap (λ t. cond t (net_on netlist l.words) (latest netlist before)) h.is_net ∙ h.named

  line_new : (n m : ℕ) → IsNew n → is_line_of netlist m l ≡ eqb n m
  line_new n m h = ap (λ t. cond t (is_net m (net_on netlist l.words)) false) h.is_net ∙ ap (is_net m) h.named

  had_new : (n m : ℕ) → IsNew n → had_line netlist now m ≡ (had_line netlist before m || eqb n m)
  had_new n m h = had_more netlist before l m ∙ ap (λ t. had_line netlist before m || t) (line_new n m h)

  nodes_new : (n m : ℕ) → IsNew n → nodes_in netlist f now m ≡ nodes_in netlist f before m
  nodes_new n m h = nodes_same netlist f now before m (section_net netlist before l m h.is_net)

  no_nodes : (n m : ℕ) → IsNew n → latest netlist now ≡ Some m → nodes_in netlist f now m ≡ []
  no_nodes n m h e =
      let one : m ≡ n = same_Some m n (sym e ∙ latest_new n h) in
      nodes_new n m h ∙ ap (nodes_in netlist f before) one ∙ nodes_none netlist f before n h.new

  mark_by : (had : List Bool) (n m : ℕ) (t b : Bool) → eqb n m ≡ t → m < length had → get_or had m false ≡ b → get_or (set had n true) m false ≡ (b || t)
  mark_by had n m true b e lt old =
      let one = eqb-true n m e in
      ap (λ k. get_or (set had k true) m false) one ∙ get_or-set_same had m true false lt ∙ sym (or_right b true refl)
  mark_by had n m false b e lt old = get_or-set_other had n m true false (apart n m e) ∙ old ∙ sym (or-false b)

  ended_by : (n m : ℕ) (t u : Bool) → IsNew n → had_line netlist before m ≡ t → eqb n m ≡ u → (t || u) ≡ true → list_any is_net_line (lines_after (is_line_of netlist m) now) ≡ not u
  unfolding had_line
  ended_by n m true true h had one e =
      clash (had_line netlist before m) had (ap (had_line netlist before) (sym (eqb-true n m one)) ∙ h.new)
  ended_by n m true false h had one e =
      let own = is_line_of netlist m in
      ap (list_any is_net_line) (after_more own before l had) ∙ any_push is_net_line (lines_after own before) l ∙ or_right (list_any is_net_line (lines_after own before)) (is_net_line l) h.is_net
  ended_by n m false true h had one e = ap (list_any is_net_line) (after_none_more (is_line_of netlist m) before l had)
  ended_by n m false false h had one e = absurd cc

  net_added : (old new : Seen) (n : ℕ) → IsSeen netlist f before old → IsNew n → NotesNet old new n → IsSeen netlist f now new
  net_added old new n seen h notes =
      record {
        net = notes.net ∙ sym (latest_new n h);
        last = λ m e routed. notes.last ∙ sym (ap (last_or None) (no_nodes n m h e));
        had_count = ap length notes.had ∙ length-set old.had.items n true ∙ seen.had_count;
        had = λ m lt.
            let within : m < length old.had.items = subst (λ k. m < k) (sym seen.had_count) lt in
            ap (λ xs. get_or xs m false) notes.had ∙ mark_by old.had.items n m (eqb n m) (had_line netlist before m) refl within (seen.had m lt) ∙ sym (had_new n m h);
        lists_count = ap length notes.lists ∙ seen.lists_count;
        lists = λ m lt.
            ap (λ xs. get_or xs m None) notes.lists ∙ seen.lists m lt ∙ routed_same netlist f before now m (is_routed_at netlist m) (λ t. sym (nodes_new n m h));
        owners_count = ap length notes.owners ∙ seen.owners_count;
        owned = λ m a lt routed e. ap (λ ns. is_among ns a) (nodes_new n m h) ∙ seen.owned m a lt routed (sym (ap (λ xs. get_or xs a no_owner) notes.owners) ∙ e);
        owns = λ m a e routed among. clash (is_among (nodes_in netlist f now m) a) among (ap (λ ns. is_among ns a) (no_nodes n m h e));
        ended = λ m e.
            ended_by n m (had_line netlist before m) (eqb n m) h refl refl (sym (had_new n m h) ∙ e) ∙ sym (ap (λ o. not (is_net m o)) (latest_new n h));
        opened = λ m e.
            let one : n ≡ m = same_Some n m (sym (latest_new n h) ∙ e) in (
              subst (λ k. k < length netlist.nets) one (net_within netlist l.words n h.named),
              had_new n m h ∙ or_right (had_line netlist before m) (eqb n m) (eq-eqb n m one),
            );
      }

  -- ---- a line that is no net's

  latest_kept : is_net_line l ≡ false → latest netlist now ≡ latest netlist before
  latest_kept is = latest_more netlist before l ∙ ap (λ t. cond t (net_on netlist l.words) (latest netlist before)) is

  had_kept : is_net_line l ≡ false → (m : ℕ) → had_line netlist now m ≡ had_line netlist before m
  had_kept is m = had_more netlist before l m ∙ ap (λ t. had_line netlist before m || cond t (is_net m (net_on netlist l.words)) false) is ∙ or-false (had_line netlist before m)

  ended_kept : is_net_line l ≡ false → (m : ℕ) → had_line netlist before m ≡ true → list_any is_net_line (lines_after (is_line_of netlist m) before) ≡ not (is_net m (latest netlist before))
      → list_any is_net_line (lines_after (is_line_of netlist m) now) ≡ not (is_net m (latest netlist now))
  unfolding had_line
  ended_kept is m had ended =
      let own = is_line_of netlist m in
      ap (list_any is_net_line) (after_more own before l had)
      ∙ any_push is_net_line (lines_after own before) l
      ∙ ap (λ t. list_any is_net_line (lines_after own before) || t) is
      ∙ or-false (list_any is_net_line (lines_after own before))
      ∙ ended
      ∙ sym (ap (λ o. not (is_net m o)) (latest_kept is))

  -- another net's section is as it was
  nodes_apart : (old : Seen) (m : ℕ) → IsSeen netlist f before old → is_net m (latest netlist before) ≡ false → nodes_in netlist f now m ≡ nodes_in netlist f before m
  nodes_apart old m seen other = nodes_same netlist f now before m (section_other netlist before l m (λ had. seen.ended m had ∙ ap not other))

  -- that of the latest net has got the node
  nodes_here : (old : Seen) (n a : ℕ) → IsSeen netlist f before old → is_net_line l ≡ false → latest netlist before ≡ Some n → node_on f l.words ≡ Some a → nodes_in netlist f now n ≡ nodes_in netlist f before n ++ a ∷ []
  nodes_here old n a seen is e node =
      let had = (seen.opened n e).1 in
      let open_still : list_any is_net_line (lines_after (is_line_of netlist n) before) ≡ false = seen.ended n had ∙ ap (λ o. not (is_net n o)) e ∙ ap not (eq-eqb n n refl) in
      nodes_more netlist f before l n a (section_here netlist before l n is had open_still) node

  is_other : (n m : ℕ) → latest netlist before ≡ Some n → m ≢ n → is_net m (latest netlist before) ≡ false
  is_other n m e h = ap (is_net m) e ∙ ne_eqb n m (λ s. h (sym s))

  -- ---- the line of a block

  not_routed : (n m : ℕ) → is_routed_at netlist n ≡ false → is_routed_at netlist m ≡ true → m ≢ n
  not_routed n m unrouted routed e = both_ways (is_routed_at netlist m) (ap (is_routed_at netlist) e ∙ unrouted) routed

  block_kept : (old : Seen) (n : ℕ) → IsSeen netlist f before old → is_net_line l ≡ false → latest netlist before ≡ Some n → is_routed_at netlist n ≡ false → IsSeen netlist f now old
  block_kept old n seen is at unrouted =
      let same = λ (m : ℕ) (routed : is_routed_at netlist m ≡ true). nodes_apart old m seen (is_other n m at (not_routed n m unrouted routed)) in
      let latest_now = latest_kept is in
      record {
        net = seen.net ∙ sym latest_now;
        last = λ m e routed. absurd (not_routed n m unrouted routed (same_Some m n (sym e ∙ latest_now ∙ at)));
        had_count = seen.had_count;
        had = λ m lt. seen.had m lt ∙ sym (had_kept is m);
        lists_count = seen.lists_count;
        lists = λ m lt. seen.lists m lt ∙ routed_same netlist f before now m (is_routed_at netlist m) (λ t. sym (same m t));
        owners_count = seen.owners_count;
        owned = λ m a lt routed e. ap (λ ns. is_among ns a) (same m routed) ∙ seen.owned m a lt routed e;
        owns = λ m a e routed among. absurd (not_routed n m unrouted routed (same_Some m n (sym e ∙ latest_now ∙ at)));
        ended = λ m e. let had = sym (had_kept is m) ∙ e in ended_kept is m had (seen.ended m had);
        opened = λ m e. let was = seen.opened m (sym latest_now ∙ e) in (was.0, had_kept is m ∙ was.1);
      }

  -- ---- the line of a node

  record IsPlaced (n a : ℕ) : Type 0 where
    is : is_net_line l ≡ false
    at : latest netlist before ≡ Some n
    routed : is_routed_at netlist n ≡ true
    node : node_on f l.words ≡ Some a
    within : a < node_count_of f

  nodes_by : (old : Seen) (n m a : ℕ) (t : Bool) → IsSeen netlist f before old → IsPlaced n a → eqb n m ≡ t → nodes_in netlist f now m ≡ cond t (nodes_in netlist f before m ++ a ∷ []) (nodes_in netlist f before m)
  nodes_by old n m a true seen h e =
      let one = eqb-true n m e in
      subst (λ k. nodes_in netlist f now k ≡ nodes_in netlist f before k ++ a ∷ []) one (nodes_here old n a seen h.is h.at h.node)
  nodes_by old n m a false seen h e = nodes_apart old m seen (is_other n m h.at (apart n m e))

  list_by : (old : Seen) (lists : List (Option (List Pair))) (n m a : ℕ) (t : Bool) → IsSeen netlist f before old → IsPlaced n a → eqb n m ≡ t → m < length netlist.nets
      → lists ≡ set old.lists.items n (list_more (get_or old.lists.items n None) (pair_after f old.last a)) → get_or lists m None ≡ routed_list netlist f now m
  unfolding list_of_net
  list_by old lists n m a true seen h e lt new =
      let one : n ≡ m = eqb-true n m e in
      let here : n < length old.lists.items = omega (arith, one, lt, seen.lists_count) in
      let nodes = nodes_in netlist f before n in
      let was : get_or old.lists.items n None ≡ list_along f nodes = seen.lists n (omega (arith, one, lt)) ∙ ap (λ t. cond t (list_along f nodes) None) h.routed in
      subst (λ k. get_or lists k None ≡ routed_list netlist f now k) one
      (
      ap (λ xs. get_or xs n None) new
      ∙ get_or-set_same old.lists.items n (list_more (get_or old.lists.items n None) (pair_after f old.last a)) None here
      ∙ ap (λ list. list_more list (pair_after f old.last a)) was
      ∙ ap (λ last. list_more (list_along f nodes) (pair_after f last a)) (seen.last n h.at h.routed)
      ∙ sym (list_push f nodes a)
      ∙ sym (ap (list_along f) (nodes_here old n a seen h.is h.at h.node))
      ∙ sym (ap (λ t. cond t (list_along f (nodes_in netlist f now n)) None) h.routed))
  list_by old lists n m a false seen h e lt new =
      let other = nodes_apart old m seen (is_other n m h.at (apart n m e)) in
      ap (λ xs. get_or xs m None) new
      ∙ get_or-set_other old.lists.items n m (list_more (get_or old.lists.items n None) (pair_after f old.last a)) None (apart n m e)
      ∙ seen.lists m lt
      ∙ routed_same netlist f before now m (is_routed_at netlist m) (λ t. sym other)

  among_more : (old : Seen) (n m a b : ℕ) → IsSeen netlist f before old → IsPlaced n a → is_among (nodes_in netlist f before m) b ≡ true → is_among (nodes_in netlist f now m) b ≡ true
  among_more old n m a b seen h among = by_net (eqb n m) refl
    where
      by_net : (t : Bool) → eqb n m ≡ t → is_among (nodes_in netlist f now m) b ≡ true
      by_net true e = ap (λ ns. is_among ns b) (nodes_by old n m a true seen h e) ∙ among_push (nodes_in netlist f before m) a b ∙ or_left (is_among (nodes_in netlist f before m) b) (eqb a b) among
      by_net false e = ap (λ ns. is_among ns b) (nodes_by old n m a false seen h e) ∙ among

  among_here : (old : Seen) (n a b : ℕ) → IsSeen netlist f before old → IsPlaced n a → is_among (nodes_in netlist f now n) b ≡ (is_among (nodes_in netlist f before n) b || eqb a b)
  among_here old n a b seen h = ap (λ ns. is_among ns b) (nodes_here old n a seen h.is h.at h.node) ∙ among_push (nodes_in netlist f before n) a b

  owned_by : (old : Seen) (owners : List ℕ) (n m a b : ℕ) (t : Bool) → IsSeen netlist f before old → IsPlaced n a → eqb a b ≡ t → m < length netlist.nets → is_routed_at netlist m ≡ true → owners ≡ set old.owners.items a n
      → get_or owners b no_owner ≡ m → is_among (nodes_in netlist f now m) b ≡ true
  owned_by old owners n m a b true seen h e lt routed new own =
      let one : a ≡ b = eqb-true a b e in
      let within : a < length old.owners.items = subst (λ k. a < k) (sym seen.owners_count) h.within in
      let given : get_or owners b no_owner ≡ n = ap (λ xs. get_or xs b no_owner) new ∙ ap (λ k. get_or (set old.owners.items a n) k no_owner) (sym one) ∙ get_or-set_same old.owners.items a n no_owner within in
      subst (λ k. is_among (nodes_in netlist f now k) b ≡ true) (sym given ∙ own) (among_here old n a b seen h ∙ or_right (is_among (nodes_in netlist f before n) b) (eqb a b) e)
  owned_by old owners n m a b false seen h e lt routed new own =
      let kept : get_or old.owners.items b no_owner ≡ m = sym (get_or-set_other old.owners.items a b n no_owner (apart a b e)) ∙ sym (ap (λ xs. get_or xs b no_owner) new) ∙ own in
      among_more old n m a b seen h (seen.owned m b lt routed kept)

  owns_by : (old : Seen) (owners : List ℕ) (n a b : ℕ) (t : Bool) → IsSeen netlist f before old → IsPlaced n a → eqb a b ≡ t → owners ≡ set old.owners.items a n → is_among (nodes_in netlist f now n) b ≡ true → get_or owners b no_owner ≡ n
  owns_by old owners n a b true seen h e new among =
      let within : a < length old.owners.items = subst (λ k. a < k) (sym seen.owners_count) h.within in
      ap (λ xs. get_or xs b no_owner) new ∙ ap (λ k. get_or (set old.owners.items a n) k no_owner) (sym (eqb-true a b e)) ∙ get_or-set_same old.owners.items a n no_owner within
  owns_by old owners n a b false seen h e new among =
      let before_it : is_among (nodes_in netlist f before n) b ≡ true = sym (or-false (is_among (nodes_in netlist f before n) b)) ∙ sym (ap (λ t. is_among (nodes_in netlist f before n) b || t) e) ∙ sym (among_here old n a b seen h) ∙ among in
      ap (λ xs. get_or xs b no_owner) new ∙ get_or-set_other old.owners.items a b n no_owner (apart a b e) ∙ seen.owns n b h.at h.routed before_it

  node_added : (old new : Seen) (n a : ℕ) → IsSeen netlist f before old → IsPlaced n a → NotesNode f old new a → IsSeen netlist f now new
  node_added old new n a seen h notes =
      let latest_now = latest_kept h.is in
      let open_net : old.net ≡ Some n = seen.net ∙ h.at in
      let lists = notes.lists n open_net in
      let owners = notes.owners n open_net in
      let one = λ (m : ℕ) (e : latest netlist now ≡ Some m). same_Some n m (sym (latest_now ∙ h.at) ∙ e) in
      record {
        net = notes.net ∙ seen.net ∙ sym latest_now;
        last = λ m e routed.
            notes.last
            ∙ sym (last_push None (nodes_in netlist f before n) a)
            ∙ sym (ap (last_or None) (nodes_here old n a seen h.is h.at h.node))
            ∙ ap (λ k. last_or None (nodes_in netlist f now k)) (one m e);
        had_count = ap length notes.had ∙ seen.had_count;
        had = λ m lt. ap (λ xs. get_or xs m false) notes.had ∙ seen.had m lt ∙ sym (had_kept h.is m);
        lists_count = ap length lists ∙ length-set old.lists.items n (list_more (get_or old.lists.items n None) (pair_after f old.last a)) ∙ seen.lists_count;
        lists = λ m lt. list_by old new.lists.items n m a (eqb n m) seen h refl lt lists;
        owners_count = ap length owners ∙ length-set old.owners.items a n ∙ seen.owners_count;
        owned = λ m b lt routed e. owned_by old new.owners.items n m a b (eqb a b) seen h refl lt routed owners e;
        owns = λ m b e routed among.
            let same = one m e in
            owns_by old new.owners.items n a b (eqb a b) seen h refl owners (ap (λ k. is_among (nodes_in netlist f now k) b) same ∙ among) ∙ same;
        ended = λ m e. let had = sym (had_kept h.is m) ∙ e in ended_kept h.is m had (seen.ended m had);
        opened = λ m e. let was = seen.opened m (sym latest_now ∙ e) in (was.0, had_kept h.is m ∙ was.1);
      }

  -- ---- a line without a fault

  global_apart : (n : ℕ) → is_global_at netlist n ≡ true → is_routed_at netlist n ≡ false
  global_apart n e = rw e refl

  added_by : (old new : Seen) (e : FileEntry) (t : Bool) → IsSeen netlist f before old → is_net_line l ≡ t → judge netlist f before l ≡ Ok e → Notes f old new e → IsSeen netlist f now new
  unfolding judge
  added_by old new e true seen is ok notes =
      net_is netlist (had_line netlist before) l.number l.words e (rw is at ok)
      (λ n named fresh entry. net_added old new n seen (record { is_net = is; named = named; new = fresh }) (subst (Notes f old new) entry notes))
  added_by old new e false seen is ok notes =
      section_is netlist f (λ n. is_detached f (nodes_in netlist f before n)) l.number l.words (latest netlist before) e (rw is at ok)
      (λ n at global entry.
      let same : new ≡ old = subst (Notes f old new) entry notes in
      subst (IsSeen netlist f now) (sym same) (block_kept old n seen is at (global_apart n global)))
      (λ n a at routed node within entry. node_added old new n a seen (record { is = is; at = at; routed = routed; node = node; within = within }) (subst (Notes f old new) entry notes))

  pub line_added : (old new : Seen) (e : FileEntry) → IsSeen netlist f before old → judge netlist f before l ≡ Ok e → Notes f old new e → IsSeen netlist f now new
  line_added old new e seen ok notes = added_by old new e (is_net_line l) seen refl ok notes
