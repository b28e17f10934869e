-- The logical lines, physical line by physical line.
use Rattle.std.proofs.Common.{◌≡◌, ℕ, suc, ◌+◌, ◌-◌, ◌<◌, ◌≤◌, Bool, true, false, cond, ltb, leb, List, [], ◌∷◌, ◌++◌, length, take, drop, All, refl, sym, ap, subst, ◌∙◌, append_assoc, arith, inl, inr}
use Rattle.std.specs.Prelude.{slice_range, filter, not}
use Rattle.std.specs.List.{slice_split, before_first, after_first, position_or_len}
use Rattle.std.proofs.lemmas.Bool.{cases_lt, lt-ltb, le-ltb, le-leb, lt-leb}
use Rattle.std.proofs.lemmas.List.{map-append, take_rest, drop-drop, drop-append-le, take-append-le, drop_all, length-take, length-drop, length-append, length-map}
use Rattle.std.proofs.lemmas.List.Elements.{All-append, All-nil, All-cons, All-weaker}
use Rattle.std.proofs.lemmas.List.Splits.{slice_split_first, slice_split_none, length-slice_split}
use Rattle.std.proofs.lemmas.List.Sums.{prefix_len-le-length, fails_before_first, length-filter, count_by-le-length}
use Rattle.vpr_text.specs.declared.line.ByteRange.{ByteRange}
use Rattle.vpr_text.specs.declared.line.LineEntry.{LineEntry}
use Rattle.vpr_text.specs.Words.{Line, is_line_feed, is_separator, is_comment_sign, is_filled, has_words, words_on, goes_on, given_up, continued, lines_from, words_of}
use Rattle.vpr_text.specs.kept.Split.{word_in, words_in, line_in, lines_in, IsRange, IsEntry, AreEntriesOf, entry_if, AddsLine}
use Rattle.vpr_text.proofs.ByteParts.{length-part}

-- ---- physical lines

-- the physical lines from a place on, where none is left past the end
abbrev pub lines_left : List ℕ → ℕ → List (List ℕ)
lines_left source at = cond (leb at (length source)) (slice_split is_line_feed (drop at source)) []

pub lines_left-none : (source : List ℕ) (at : ℕ) → length source < at → lines_left source at ≡ []
lines_left-none source at lt = ap (λ (b : Bool). cond b (slice_split is_line_feed (drop at source)) []) (lt-leb at (length source) lt)

lines_left-some : (source : List ℕ) (at : ℕ) → at ≤ length source → lines_left source at ≡ slice_split is_line_feed (drop at source)
lines_left-some source at le = ap (λ (b : Bool). cond b (slice_split is_line_feed (drop at source)) []) (le-leb at (length source) le)

pub lines_left-at : (source : List ℕ) (at end : ℕ) → at ≤ length source → end ≡ at + position_or_len is_line_feed (slice_range source at (length source))
    → lines_left source at ≡ slice_range source at end ∷ lines_left source (end + 1)
lines_left-at source at end le e =
    let xs = drop at source in
    let pos = position_or_len is_line_feed xs in
    let rest : slice_range source at (length source) ≡ xs = take_rest source at in
    let place : end ≡ at + pos = e ∙ ap (λ (l : List ℕ). at + position_or_len is_line_feed l) rest in
    let len = length-drop at source in
    let bound = prefix_len-le-length (λ x. not (is_line_feed x)) xs in
    let n : end - at ≡ pos = omega (arith, place) in
    let line : slice_range source at end ≡ before_first is_line_feed xs = ap (λ (k : ℕ). take k xs) n in
    lines_left-some source at le ∙ elim (cases_lt pos (length xs)) [
      | inl lt ↦ (
          let after : after_first is_line_feed xs ≡ drop (end + 1) source = drop-drop (pos + 1) at source ∙ ap (λ (k : ℕ). drop k source) (let m : at + (pos + 1) ≡ end + 1 = omega (arith, place) in m) in
          let within : end + 1 ≤ length source = omega (arith, place, len) in
          slice_split_first is_line_feed xs 0 lt ∙ ap (λ (l : List ℕ). l ∷ slice_split is_line_feed (after_first is_line_feed xs)) (sym line)
          ∙ ap (λ (l : List ℕ). slice_range source at end ∷ slice_split is_line_feed l) after
          ∙ ap (λ (l : List (List ℕ)). slice_range source at end ∷ l) (sym (lines_left-some source (end + 1) within)))
      | inr ge ↦ (
          let ended : end ≡ length source = omega (arith, place, len, bound) in
          let whole : slice_range source at end ≡ xs = ap (λ (k : ℕ). slice_range source at k) ended ∙ rest in
          slice_split_none is_line_feed xs (λ k d lt. fails_before_first is_line_feed xs k d (omega arith))
          ∙ ap (λ (l : List ℕ). l ∷ []) (sym whole) ∙ ap (λ (l : List (List ℕ)). slice_range source at end ∷ l) (sym (lines_left-none source (end + 1) (omega (arith, ended)))))
    ]

-- ---- lines that go on

continued-continued : (n m : ℕ) (ws vs : List (List ℕ)) (ls : List Line) → continued n ws (continued m vs ls) ≡ continued n (ws ++ vs) ls
continued-continued n m ws vs [] = refl
continued-continued n m ws vs (l ∷ ls) = ap (λ (us : List (List ℕ)). record { number = n; words = us } ∷ ls) (sym (append_assoc ws vs l.words))

continued_none-if : (n : ℕ) (ws vs : List (List ℕ)) (ls : List Line) (b : Bool)
    → continued n [] (cond b (continued n vs ls) (record { number = n; words = ws } ∷ ls)) ≡ cond b (continued n vs ls) (record { number = n; words = ws } ∷ ls)
continued_none-if n ws vs ls true = continued-continued n n [] vs ls
continued_none-if n ws vs ls false = refl

-- no words before a line change nothing but that a line without words may stand at the end
continued_none : (n : ℕ) (ps : List (List ℕ)) → filter has_words (continued n [] (lines_from n ps)) ≡ filter has_words (lines_from n ps)
continued_none n [] = refl
continued_none n (p ∷ ps) = ap (filter has_words) (continued_none-if n (words_on p) (given_up (words_on p)) (lines_from (n + 1) ps) (goes_on (words_on p)))

-- ---- entries

line_in-append : (source : List ℕ) (ranges added : List ByteRange) (first : ℕ) (e : LineEntry) → IsEntry first e → first ≤ length ranges → line_in source (ranges ++ added) e ≡ line_in source ranges e
line_in-append source ranges added first e fits le =
    let n : e.first ≤ length ranges = omega (arith, fits) in
    let m : e.count ≤ length (drop e.first ranges) = omega (arith, fits, length-drop e.first ranges) in
    ap (λ (rs : List ByteRange). record { number = e.number; words = words_in source rs })
    (ap (take e.count) (drop-append-le e.first ranges added n) ∙ take-append-le e.count (drop e.first ranges) added m)

lines_in-append : (source : List ℕ) (ranges added : List ByteRange) (first : ℕ) (entries : List LineEntry) → All (IsEntry first) entries → first ≤ length ranges
    → lines_in source (ranges ++ added) entries ≡ lines_in source ranges entries
lines_in-append source ranges added first [] fits le = refl
lines_in-append source ranges added first (e ∷ es) fits le =
    ap (λ (l : Line). l ∷ lines_in source (ranges ++ added) es) (line_in-append source ranges added first e (fits 0 e (omega arith)) le)
    ∙ ap (λ (ls : List Line). line_in source ranges e ∷ ls) (lines_in-append source ranges added first es (λ k d lt. fits (suc k) d (omega arith)) le)

is_filled-words : (source : List ℕ) (rs : List ByteRange) → is_filled (words_in source rs) ≡ ltb 0 (length rs)
is_filled-words source [] = refl
is_filled-words source (r ∷ rs) = sym (lt-ltb 0 (length (r ∷ rs)) (omega arith))

closed : (source : List ℕ) (ranges : List ByteRange) (e : LineEntry) (ws : List (List ℕ)) (b : Bool) → (line_in source ranges e).words ≡ ws
    → lines_in source ranges (cond b (e ∷ []) []) ≡ cond b (record { number = e.number; words = ws } ∷ []) []
closed source ranges e ws true eq = ap (λ (us : List (List ℕ)). record { number = e.number; words = us } ∷ []) eq
closed source ranges e ws false eq = refl

-- the entry of the last ranges is their line, if it has words
lines_in-entry : (source : List ℕ) (ranges : List ByteRange) (number first : ℕ) → first ≤ length ranges
    → lines_in source ranges (entry_if number first (length ranges)) ≡ filter has_words (record { number = number; words = words_in source (drop first ranges) } ∷ [])
lines_in-entry source ranges number first le =
    let rs = drop first ranges in
    let filled : ltb first (length ranges) ≡ is_filled (words_in source rs) = (elim (cases_lt first (length ranges)) [
      | inl lt ↦ lt-ltb first (length ranges) lt ∙ sym (lt-ltb 0 (length rs) (omega (arith, length-drop first ranges)))
      | inr ge ↦ le-ltb first (length ranges) ge ∙ sym (le-ltb 0 (length rs) (omega (arith, length-drop first ranges)))
    ]) ∙ sym (is_filled-words source rs) in
    closed source ranges (record { number = number; first = first; count = length ranges - first }) (words_in source rs) (ltb first (length ranges)) (ap (words_in source) (take_rest ranges first))
    ∙ ap (λ (b : Bool). cond b (record { number = number; words = words_in source rs } ∷ []) []) filled

filter-cons : (l : Line) (ls : List Line) (b : Bool) → has_words l ≡ b → filter has_words (l ∷ ls) ≡ filter has_words (l ∷ []) ++ filter has_words ls
filter-cons l ls true e = ap (λ (t : Bool). cond t (l ∷ filter has_words ls) (filter has_words ls)) e ∙ sym (ap (λ (t : Bool). cond t (l ∷ []) [] ++ filter has_words ls) e)
filter-cons l ls false e = ap (λ (t : Bool). cond t (l ∷ filter has_words ls) (filter has_words ls)) e ∙ sym (ap (λ (t : Bool). cond t (l ∷ []) [] ++ filter has_words ls) e)

entry_fits-if : (number first end : ℕ) (b : Bool) → first ≤ end → All (IsEntry end) (cond b (record { number = number; first = first; count = end - first } ∷ []) [])
entry_fits-if number first end true le = All-cons (IsEntry end) (record { number = number; first = first; count = end - first }) [] (omega arith) (All-nil (IsEntry end))
entry_fits-if number first end false le = All-nil (IsEntry end)

entries_fit_after : (entries : List LineEntry) (number first end : ℕ) → first ≤ end → All (IsEntry first) entries → All (IsEntry end) (entries ++ entry_if number first end)
entries_fit_after entries number first end le fits =
    All-append (IsEntry end) entries (entry_if number first end) (All-weaker (IsEntry first) (IsEntry end) (λ e h. omega (arith, h)) entries fits) (entry_fits-if number first end (ltb first end) le)

-- ---- how many words there are

length-given_up : (ws : List (List ℕ)) → length (given_up ws) ≤ length ws
length-given_up [] = omega arith
length-given_up (w ∷ []) = omega (arith, length-filter is_filled (take (length w - 1) w ∷ []), count_by-le-length is_filled (take (length w - 1) w ∷ []))
length-given_up (w ∷ v ∷ ws) = omega (arith, length-given_up (v ∷ ws))

length-left : (ws : List (List ℕ)) (b : Bool) → length (cond b (given_up ws) ws) ≤ length ws
length-left ws true = length-given_up ws
length-left ws false = omega arith

length-words_on : (line : List ℕ) → length (words_on line) ≤ length line + 1
length-words_on line =
    let text = before_first is_comment_sign line in
    omega (
      arith,
      length-filter is_filled (slice_split is_separator text),
      count_by-le-length is_filled (slice_split is_separator text),
      length-slice_split is_separator text,
      count_by-le-length is_separator text,
      length-take (position_or_len is_comment_sign line) line,
    )

-- ---- the lines up to a place

-- the entries are the closed lines, and the ranges from `first` on the words of the line that began
-- on line `opened`
pub record IsJoined (source : List ℕ) (ranges : List ByteRange) (entries : List LineEntry) (first opened number at : ℕ) : Type 0 where
  pub ranges_fit : All (IsRange (length source)) ranges
  pub entries_fit : All (IsEntry first) entries
  pub first_in : first ≤ length ranges
  pub few : length ranges ≤ at
  pub counted : number ≤ at + 1
  pub within : at ≤ length source + 1
  pub lines : lines_in source ranges entries ++ filter has_words (continued opened (words_in source (drop first ranges)) (lines_from number (lines_left source at))) ≡ words_of source

pub IsJoined-begin : (source : List ℕ) → IsJoined source [] [] 0 1 1 0
IsJoined-begin source = record {
  ranges_fit = All-nil (IsRange (length source));
  entries_fit = All-nil (IsEntry 0);
  first_in = omega arith;
  few = omega arith;
  counted = omega arith;
  within = omega arith;
  lines = continued_none 1 (lines_left source 0) ∙ ap (λ (ps : List (List ℕ)). filter has_words (lines_from 1 ps)) (lines_left-some source 0 (omega arith));
}

-- the words of a physical line, after those of the opened line
pub record IsTaken (source : List ℕ) (old new : List ByteRange) (entries : List LineEntry) (first opened number at end : ℕ) (more : Bool) : Type 0 where
  pub ranges_fit : All (IsRange (length source)) new
  pub first_in : first ≤ length new
  pub few : length new ≤ end + 1
  pub counted : number + 1 ≤ end + 1 + 1
  pub within : end + 1 ≤ length source + 1
  pub lines : lines_in source new entries ++ filter has_words (cond more
      (continued opened (words_in source (drop first new)) (lines_from (number + 1) (lines_left source (end + 1))))
      (record { number = opened; words = words_in source (drop first new) } ∷ lines_from (number + 1) (lines_left source (end + 1)))) ≡ words_of source

joined-if : (opened number : ℕ) (ws line : List (List ℕ)) (ls : List Line) (more : Bool)
    → continued opened ws (cond more (continued number (given_up line) ls) (record { number = number; words = line } ∷ ls))
    ≡ cond more (continued opened (ws ++ cond more (given_up line) line) ls) (record { number = opened; words = ws ++ cond more (given_up line) line } ∷ ls)
joined-if opened number ws line ls true = continued-continued opened number ws (given_up line) ls
joined-if opened number ws line ls false = refl

pub take_line : (source : List ℕ) (old new : List ByteRange) (entries : List LineEntry) (first opened number at end : ℕ) (more : Bool) → at ≤ length source
    → end ≡ at + position_or_len is_line_feed (slice_range source at (length source)) → end ≤ length source
    → IsJoined source old entries first opened number at → AddsLine source old new (slice_range source at end) more → IsTaken source old new entries first opened number at end more
take_line source old new entries first opened number at end more le e within j a =
    let line = words_on (slice_range source at end) in
    let ls = lines_from (number + 1) (lines_left source (end + 1)) in
    let total : List Line → List Line = λ (rest : List Line). lines_in source old entries ++ filter has_words rest in
    let open_words = words_in source (drop first old) in
    let drops : drop first new ≡ drop first old ++ a.left.added = ap (drop first) a.left.whole ∙ drop-append-le first old a.left.added j.first_in in
    let words : words_in source (drop first new) ≡ open_words ++ cond more (given_up line) line =
    ap (words_in source) drops ∙ map-append (word_in source) (drop first old) a.left.added
    ∙ ap (λ (ws : List (List ℕ)). open_words ++ ws) (a.left.words ∙ ap (λ (b : Bool). cond b (given_up line) line) (sym a.answer)) in
    let kept : lines_in source new entries ≡ lines_in source old entries =
    ap (λ (rs : List ByteRange). lines_in source rs entries) a.left.whole ∙ lines_in-append source old a.left.added first entries j.entries_fit j.first_in in
    let step : continued opened open_words (lines_from number (lines_left source at))
    ≡ cond more (continued opened (words_in source (drop first new)) ls) (record { number = opened; words = words_in source (drop first new) } ∷ ls) =
    ap (λ (ps : List (List ℕ)). continued opened open_words (lines_from number ps)) (lines_left-at source at end le e)
    ∙ ap (λ (b : Bool). continued opened open_words (cond b (continued number (given_up line) ls) (record { number = number; words = line } ∷ ls))) (sym a.answer)
    ∙ joined-if opened number open_words line ls more
    ∙ ap (λ (ws : List (List ℕ)). cond more (continued opened ws ls) (record { number = opened; words = ws } ∷ ls)) (sym words) in
    let count : length a.left.added ≤ length (slice_range source at end) + 1 =
    omega (arith, ap length a.left.words, length-map a.left.added (word_in source), length-left line (goes_on line), length-words_on (slice_range source at end)) in
    let len = length-part source at end (omega (arith, e)) within in
    let long : length new ≡ length old + length a.left.added = ap length a.left.whole ∙ length-append old a.left.added in
    record {
      ranges_fit = subst (All (IsRange (length source))) (sym a.left.whole) (All-append (IsRange (length source)) old a.left.added j.ranges_fit a.left.fits);
      first_in = (let h = j.first_in in omega (arith, long));
      few = (let h = j.few in omega (arith, long, count, len, e));
      counted = (let h = j.counted in omega (arith, e));
      within = omega arith;
      lines = ap (λ (front : List Line). front ++ filter has_words (cond more (continued opened (words_in source (drop first new)) ls) (record { number = opened; words = words_in source (drop first new) } ∷ ls))) kept
          ∙ ap total (sym step) ∙ j.lines;
    }

-- the line goes on
pub IsJoined-more : (source : List ℕ) (old new : List ByteRange) (entries : List LineEntry) (first opened number at end : ℕ) → IsJoined source old entries first opened number at
    → IsTaken source old new entries first opened number at end true → IsJoined source new entries first opened (number + 1) (end + 1)
IsJoined-more source old new entries first opened number at end j t = record {
  ranges_fit = t.ranges_fit;
  entries_fit = j.entries_fit;
  first_in = t.first_in;
  few = t.few;
  counted = t.counted;
  within = t.within;
  lines = t.lines;
}

-- the line is closed
pub IsJoined-closed : (source : List ℕ) (old new : List ByteRange) (entries more : List LineEntry) (first opened number at end : ℕ) → IsJoined source old entries first opened number at
    → IsTaken source old new entries first opened number at end false → more ≡ entries ++ entry_if opened first (length new) → IsJoined source new more (length new) (number + 1) (number + 1) (end + 1)
IsJoined-closed source old new entries more first opened number at end j t e =
    let line : Line = record { number = opened; words = words_in source (drop first new) } in
    let ps = lines_left source (end + 1) in
    let closed_lines : lines_in source new more ≡ lines_in source new entries ++ filter has_words (line ∷ []) =
    ap (lines_in source new) e ∙ map-append (line_in source new) entries (entry_if opened first (length new))
    ∙ ap (λ (ls : List Line). lines_in source new entries ++ ls) (lines_in-entry source new opened first t.first_in) in
    let rest : filter has_words (continued (number + 1) (words_in source (drop (length new) new)) (lines_from (number + 1) ps)) ≡ filter has_words (lines_from (number + 1) ps) =
    ap (λ (rs : List ByteRange). filter has_words (continued (number + 1) (words_in source rs) (lines_from (number + 1) ps))) (drop_all (length new) new (omega arith)) ∙ continued_none (number + 1) ps in
    record {
      ranges_fit = t.ranges_fit;
      entries_fit = subst (All (IsEntry (length new))) (sym e) (entries_fit_after entries opened first (length new) t.first_in j.entries_fit);
      first_in = omega arith;
      few = t.few;
      counted = t.counted;
      within = t.within;
      lines = ap (λ (ls : List Line). ls ++ filter has_words (continued (number + 1) (words_in source (drop (length new) new)) (lines_from (number + 1) ps))) closed_lines
          ∙ ap (λ (ls : List Line). (lines_in source new entries ++ filter has_words (line ∷ [])) ++ ls) rest
          ∙ append_assoc (lines_in source new entries) (filter has_words (line ∷ [])) (filter has_words (lines_from (number + 1) ps))
          ∙ ap (λ (ls : List Line). lines_in source new entries ++ ls) (sym (filter-cons line (lines_from (number + 1) ps) (has_words line) refl))
          ∙ t.lines;
    }

-- the end of the file closes the opened line
pub record AreAll (source : List ℕ) (ranges : List ByteRange) (entries : List LineEntry) : Type 0 where
  pub kept : AreEntriesOf source ranges entries
  pub lines : lines_in source ranges entries ≡ words_of source

pub IsJoined-ends : (source : List ℕ) (ranges : List ByteRange) (entries more : List LineEntry) (first opened number at : ℕ) → length source < at → IsJoined source ranges entries first opened number at
    → more ≡ entries ++ entry_if opened first (length ranges) → AreAll source ranges more
IsJoined-ends source ranges entries more first opened number at past j e =
    let line : Line = record { number = opened; words = words_in source (drop first ranges) } in
    record {
      kept = record {
        ranges_fit = j.ranges_fit;
        entries_fit = subst (All (IsEntry (length ranges))) (sym e) (entries_fit_after entries opened first (length ranges) j.first_in j.entries_fit);
      };
      lines = ap (lines_in source ranges) e ∙ map-append (line_in source ranges) entries (entry_if opened first (length ranges))
          ∙ ap (λ (ls : List Line). lines_in source ranges entries ++ ls) (lines_in-entry source ranges opened first j.first_in)
          ∙ ap (λ (ps : List (List ℕ)). lines_in source ranges entries ++ filter has_words (continued opened (words_in source (drop first ranges)) (lines_from number ps))) (sym (lines_left-none source at past))
          ∙ j.lines;
    }
