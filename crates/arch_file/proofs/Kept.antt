-- What accepted lines keep: the limits of an architecture.
use Rattle.std.proofs.Common.{◌≡◌, ◌≢◌, ℕ, ◌<◌, ◌≤◌, Bool, true, false, cond, ltb, leb, eqb, ◌&&◌, ◌||◌, not, List, [], ◌∷◌, ◌++◌, length, drop, All, Option, Some, None, Result, Ok, Err, refl, sym, ap, subst, ◌∙◌, arith, length-append}
use Rattle.std.specs.Prelude.{unwrap_or, is_some, is_none, option_and_then, codes}
use Rattle.std.specs.Option.{option_map, option_map_or}
use Rattle.std.specs.List.{filter_map, cons_option}
use Rattle.std.proofs.lemmas.Bool.{ltb-false, leb-false, eqb-true, eqb-false, not-false, and_parts, or_parts}
use Rattle.std.proofs.lemmas.List.{append-nil}
use Rattle.std.proofs.lemmas.List.Elements.{filter_map-append, All-push, All-nil, All-head, All-tail}
use Rattle.vpr_text.specs.Words.{Line}
use Rattle.vpr_text.specs.Numbers.{number_of}
use Rattle.arch_file.specs.declared.fault.LineFault.{LineFault}
use Rattle.arch_file.specs.declared.fault.LineFault.TheVariants.{Repeated, BadWord, Unsupported}
use Rattle.arch_file.specs.declared.keyword.Keyword.{Keyword}
use Rattle.arch_file.specs.declared.keyword.Keyword.TheVariants as keyword
use Rattle.arch_file.specs.declared.line.ArchLine.{ArchLine}
use Rattle.arch_file.specs.declared.line.ArchLine.TheVariants as line
use Rattle.arch_file.specs.declared.entries.Direction.{Direction}
use Rattle.arch_file.specs.declared.entries.Direction.TheVariants.{Input, Output}
use Rattle.arch_file.specs.declared.entries.FcType.TheVariants.{Absolute, Fractional}
use Rattle.arch_file.specs.declared.entries.SegmentLength.{SegmentLength}
use Rattle.arch_file.specs.declared.entries.SegmentLength.TheVariants.{Places, Longline}
use Rattle.arch_file.specs.Architecture.{IsSegmentLength, IsWithinLimits}
use Rattle.arch_file.specs.Faults.{first_fault}
use Rattle.arch_file.specs.Judge.{is_passed, has_keyword, is_repeated, judge, judged, says, keyword_at}
use Rattle.arch_file.specs.Keyword.{same_keyword}
use Rattle.vpr_text.specs.Word.{is_text, has, is_at, number_in}
use Rattle.arch_file.specs.Lines.{keyword_of_pin, io_rat_of, pin_of, segment_of, pins_of, segments_of}
use Rattle.arch_file.specs.Pairs.{pairs_of, pair_with, value_of, has_key, fixed_for}
use Rattle.arch_file.specs.PinLine.{mixes, pin_line, pin_in, is_bad_class, lacks_sides}
use Rattle.arch_file.specs.Reading.{at_number, entries_from, has_gap, missing_of, value_in, architecture_from}
use Rattle.vpr_text.specs.Readings.{◌>>=◌}
use Rattle.arch_file.specs.SegmentLine.{segment_line, segment_in, length_in, is_unsupported, is_too_long, has_segment_keys, has_wire_keys, has_other_keys, has_wrong_value, is_wrong_value, is_wrong_length}
use Rattle.arch_file.specs.SwitchLine.{switch_line, switch_in, repeats_switch, has_bad_number, has_switch_keys, is_buffer_word}
use Rattle.arch_file.specs.Values.{pads_in, is_one, is_not_fixed, is_distribution, io_rat_line, chan_width_io_line, channel_line, number_line, fixed_value, switch_block_type_line, fc_type_line}
use Rattle.arch_file.proofs.Directions.{HaveOneDirection, direction_in, one_direction_more, not_mixed}
use Rattle.arch_file.proofs.Faultless.{accepted, or_true, and_false, passed, not_err, found_passes, found_fails}

-- pads at one place of the perimeter
abbrev pub IsPads : ℕ → Type 0
IsPads n = (1 ≤ n) × (n ≤ 16)

pub record KeepLimits (lines : List ArchLine) : Type 0 where
  pub pads : All IsPads (filter_map io_rat_of lines)
  pub few_pins : length (pins_of lines) ≤ 64
  pub few_classes : All (λ p. p.class < 64) (pins_of lines)
  pub one_direction : HaveOneDirection (pins_of lines)
  pub few_segments : length (segments_of lines) ≤ 16
  pub segment_lengths : All (λ s. IsSegmentLength s.length) (segments_of lines)

-- what a line has to be, so that the lines before it and this one keep the limits
abbrev Suits : List ArchLine → ArchLine → Type 0
Suits before (line.IoRat n) = IsPads n
Suits before (line.Pin p) = (p.class < 64) × (length (pins_of before) < 64) × (mixes before p.direction p.class ≡ false)
Suits before (line.Segment s) = IsSegmentLength s.length × (length (segments_of before) < 16)
Suits before _ = Unit {0}

-- ---- one more line

same : {X : Type 0} (h : ArchLine → Option X) (xs : List ArchLine) (x : ArchLine) → h x ≡ None → filter_map h xs ≡ filter_map h (xs ++ x ∷ [])
same h xs x e = sym (filter_map-append h xs (x ∷ []) ∙ rw e (append-nil (filter_map h xs)))

more : {X : Type 0} (h : ArchLine → Option X) (xs : List ArchLine) (x : ArchLine) (y : X) → h x ≡ Some y → filter_map h xs ++ y ∷ [] ≡ filter_map h (xs ++ x ∷ [])
more h xs x y e = sym (filter_map-append h xs (x ∷ []) ∙ rw e refl)

kept_other : (before : List ArchLine) (x : ArchLine) → io_rat_of x ≡ None → pin_of x ≡ None → segment_of x ≡ None → KeepLimits before → KeepLimits (before ++ x ∷ [])
kept_other before x no_pads no_pin no_segment k =
    record {
      pads = subst (All IsPads) (same io_rat_of before x no_pads) k.pads;
      few_pins = subst (λ ps. length ps ≤ 64) (same pin_of before x no_pin) k.few_pins;
      few_classes = subst (All (λ p. p.class < 64)) (same pin_of before x no_pin) k.few_classes;
      one_direction = subst HaveOneDirection (same pin_of before x no_pin) k.one_direction;
      few_segments = subst (λ ss. length ss ≤ 16) (same segment_of before x no_segment) k.few_segments;
      segment_lengths = subst (All (λ s. IsSegmentLength s.length)) (same segment_of before x no_segment) k.segment_lengths;
    }

pub KeepLimits-push : (before : List ArchLine) (x : ArchLine) → KeepLimits before → Suits before x → KeepLimits (before ++ x ∷ [])
KeepLimits-push before (line.IoRat n) k suits =
    record {
      pads = subst (All IsPads) (more io_rat_of before (line.IoRat n) n refl) (All-push IsPads (filter_map io_rat_of before) n k.pads suits);
      few_pins = subst (λ ps. length ps ≤ 64) (same pin_of before (line.IoRat n) refl) k.few_pins;
      few_classes = subst (All (λ p. p.class < 64)) (same pin_of before (line.IoRat n) refl) k.few_classes;
      one_direction = subst HaveOneDirection (same pin_of before (line.IoRat n) refl) k.one_direction;
      few_segments = subst (λ ss. length ss ≤ 16) (same segment_of before (line.IoRat n) refl) k.few_segments;
      segment_lengths = subst (All (λ s. IsSegmentLength s.length)) (same segment_of before (line.IoRat n) refl) k.segment_lengths;
    }
KeepLimits-push before (line.Pin p) k suits =
    record {
      pads = subst (All IsPads) (same io_rat_of before (line.Pin p) refl) k.pads;
      few_pins = subst (λ ps. length ps ≤ 64) (more pin_of before (line.Pin p) p refl) (omega (arith, length-append (pins_of before) (p ∷ []), suits.1));
      few_classes = subst (All (λ q. q.class < 64)) (more pin_of before (line.Pin p) p refl) (All-push (λ q. q.class < 64) (pins_of before) p k.few_classes suits.0);
      one_direction = subst HaveOneDirection (more pin_of before (line.Pin p) p refl) (one_direction_more before p k.one_direction suits.2);
      few_segments = subst (λ ss. length ss ≤ 16) (same segment_of before (line.Pin p) refl) k.few_segments;
      segment_lengths = subst (All (λ s. IsSegmentLength s.length)) (same segment_of before (line.Pin p) refl) k.segment_lengths;
    }
KeepLimits-push before (line.Segment s) k suits =
    record {
      pads = subst (All IsPads) (same io_rat_of before (line.Segment s) refl) k.pads;
      few_pins = subst (λ ps. length ps ≤ 64) (same pin_of before (line.Segment s) refl) k.few_pins;
      few_classes = subst (All (λ p. p.class < 64)) (same pin_of before (line.Segment s) refl) k.few_classes;
      one_direction = subst HaveOneDirection (same pin_of before (line.Segment s) refl) k.one_direction;
      few_segments = subst (λ ss. length ss ≤ 16) (more segment_of before (line.Segment s) s refl) (omega (arith, length-append (segments_of before) (s ∷ []), suits.1));
      segment_lengths = subst (All (λ t. IsSegmentLength t.length)) (more segment_of before (line.Segment s) s refl) (All-push (λ t. IsSegmentLength t.length) (segments_of before) s k.segment_lengths suits.0);
    }
KeepLimits-push before line.ChanWidthIo k suits = kept_other before line.ChanWidthIo refl refl refl k
KeepLimits-push before line.ChanWidthX k suits = kept_other before line.ChanWidthX refl refl refl k
KeepLimits-push before line.ChanWidthY k suits = kept_other before line.ChanWidthY refl refl refl k
KeepLimits-push before line.SubblocksPerClb k suits = kept_other before line.SubblocksPerClb refl refl refl k
KeepLimits-push before line.SubblockLutSize k suits = kept_other before line.SubblockLutSize refl refl refl k
KeepLimits-push before line.SwitchBlockType k suits = kept_other before line.SwitchBlockType refl refl refl k
KeepLimits-push before (line.FcType v) k suits = kept_other before (line.FcType v) refl refl refl k
KeepLimits-push before (line.FcOutput v) k suits = kept_other before (line.FcOutput v) refl refl refl k
KeepLimits-push before (line.FcInput v) k suits = kept_other before (line.FcInput v) refl refl refl k
KeepLimits-push before (line.FcPad v) k suits = kept_other before (line.FcPad v) refl refl refl k
KeepLimits-push before (line.Switch v) k suits = kept_other before (line.Switch v) refl refl refl k

-- ---- each line

two_words : (words : List (List ℕ)) → not (eqb (length words) 2) ≡ false → has words 1 ≡ true
two_words words e = ap (λ n. ltb 1 n) (eqb-true (length words) 2 (not-false (eqb (length words) 2) e))

io_rat_suits : (before : List ArchLine) (words : List (List ℕ)) (x : ArchLine) → io_rat_line words ≡ Ok x → Suits before x
unfolding io_rat_line
io_rat_suits before words x e =
    let a = accepted (has words 1 && eqb (pads_in words) 0) (not (eqb (length words) 2)) false (ltb 16 (pads_in words)) (line.IoRat (pads_in words)) x e in
    let some = and_false (has words 1) (eqb (pads_in words) 0) a.0.no_bad_number (two_words words a.0.no_bad_word) in
    let not_none : pads_in words ≢ 0 = eqb-false (pads_in words) 0 some in
    let few : pads_in words ≤ 16 = ltb-false 16 (pads_in words) a.0.not_too_many in
    subst (Suits before) a.1 (omega (arith, not_none), few)

pin_suits : (before : List ArchLine) (d : Direction) (words : List (List ℕ)) (x : ArchLine) → pin_line before d words ≡ Ok x → Suits before x
unfolding pin_line pin_in
pin_suits before d words x e =
    let a = accepted (is_bad_class before d words) (not (is_at words 1 (codes "class:")) || lacks_sides d words) false (ltb 63 (pin_in d words).class || leb 64 (length (pins_of before))) (line.Pin (pin_in d words)) x e in
    let few = or_parts (ltb 63 (pin_in d words).class) (leb 64 (length (pins_of before))) a.0.not_too_many in
    let sides = or_parts (not (is_at words 1 (codes "class:"))) (lacks_sides d words) a.0.no_bad_word in
    subst (Suits before) a.1 (omega (arith, ltb-false 63 (pin_in d words).class few.0), leb-false 64 (length (pins_of before)) few.1, not_mixed before d words a.0.no_bad_number sides.1)

by_text : (b : Bool) (n : ℕ) → (not b && eqb n 0) ≡ false → is_too_long (cond b Longline (Places n)) ≡ false → IsSegmentLength (cond b Longline (Places n))
by_text true n some short = tt
by_text false n some short = let not_none : n ≢ 0 = eqb-false n 0 some in (omega (arith, not_none), ltb-false 16 n short)

-- the length that a value says, where there is a value
abbrev said_length : Option (List ℕ) → SegmentLength
said_length o = cond (option_map_or (λ word. is_text word (codes "longline")) o false) Longline (Places (unwrap_or (option_and_then number_of o) 0))

by_value : (o : Option (List ℕ)) → is_some o ≡ true → ((v : List ℕ) → o ≡ Some v → is_wrong_length v ≡ false) → is_too_long (said_length o) ≡ false → IsSegmentLength (said_length o)
by_value None some right short = absurd cc
by_value (Some v) some right short = by_text (is_text v (codes "longline")) (unwrap_or (number_of v) 0) (right v refl) short

mapped_some : {X Y : Type 0} (f : X → Y) (o : Option X) (y : Y) → option_map f o ≡ Some y → (x : X) × (o ≡ Some x) × (f x ≡ y)
mapped_some f None y e = absurd cc
mapped_some f (Some x) y e = (x, refl, cc)

right_length : (pairs : List (List ℕ)) (v : List ℕ) → has_wrong_value pairs ≡ false → value_of pairs (codes "length:") ≡ Some v → is_wrong_length v ≡ false
unfolding has_wrong_value value_of pair_with is_wrong_value
right_length pairs v right e =
    let p = mapped_some (λ (pair : List ℕ × List ℕ). pair.1) (pair_with pairs (codes "length:")) v e in
    let key : is_text p.0.0 (codes "length:") ≡ true = found_passes (λ (pair : List ℕ × List ℕ). is_text pair.0 (codes "length:")) (pairs_of pairs) p.0 p.1 in
    let fails : is_wrong_value p.0 ≡ false = found_fails (λ (pair : List ℕ × List ℕ). is_text pair.0 (codes "length:")) is_wrong_value (pairs_of pairs) p.0 right p.1 in
    rw (← p.2) (rw key at fails)

has_length : (pairs : List (List ℕ)) → has_wire_keys pairs ≡ true → has_key pairs (codes "length:") ≡ true
unfolding has_wire_keys
has_length pairs e =
    let a = has_key pairs (codes "frequency:") in
    let b = has_key pairs (codes "length:") in
    let c = has_key pairs (codes "wire_switch:") in
    let d = has_key pairs (codes "opin_switch:") in
    (and_parts a b (and_parts (a && b) c (and_parts (a && b && c) d e).0).0).1

-- the length of a segment that has no wrong value and is supported
length_fits : (pairs : List (List ℕ)) → has_wrong_value pairs ≡ false → has_segment_keys pairs ≡ true → is_unsupported pairs ≡ false → IsSegmentLength (length_in pairs)
unfolding has_segment_keys is_unsupported length_in
length_fits pairs right complete supported =
    let long = is_too_long (length_in pairs) in
    let whole_cb = not (eqb (fixed_for pairs (codes "Frac_cb:")) 1000000000) in
    let whole_sb = not (eqb (fixed_for pairs (codes "Frac_sb:")) 1000000000) in
    let counted = (and_parts (eqb (length pairs) 16 && has_wire_keys pairs) (has_other_keys pairs) complete).0 in
    let wire = (and_parts (eqb (length pairs) 16) (has_wire_keys pairs) counted).1 in
    let keys = has_length pairs wire in
    let short = (or_parts long whole_cb (or_parts (long || whole_cb) whole_sb supported).0).0 in
    by_value (value_of pairs (codes "length:")) keys (λ v e. right_length pairs v right e) short

segment_suits : (before : List ArchLine) (words : List (List ℕ)) (x : ArchLine) → segment_line before words ≡ Ok x → Suits before x
unfolding segment_line segment_in
segment_suits before words x e =
    let pairs = drop 1 words in
    let a = accepted (has_wrong_value pairs) (not (has_segment_keys pairs)) (is_unsupported pairs) (leb 16 (length (segments_of before))) (line.Segment (segment_in pairs)) x e in
    subst (Suits before) a.1 (length_fits pairs a.0.no_bad_number (not-false (has_segment_keys pairs) a.0.no_bad_word) a.0.no_unsupported, leb-false 16 (length (segments_of before)) a.0.not_too_many)

chan_width_io_suits : (before : List ArchLine) (words : List (List ℕ)) (x : ArchLine) → chan_width_io_line words ≡ Ok x → Suits before x
unfolding chan_width_io_line
chan_width_io_suits before words x e = subst (Suits before) (accepted (is_not_fixed words 1) (not (eqb (length words) 2)) (not (is_one words 1)) false line.ChanWidthIo x e).1 tt

channel_suits : (before : List ArchLine) (words : List (List ℕ)) (given x : ArchLine) → Suits before given → channel_line words given ≡ Ok x → Suits before x
unfolding channel_line
channel_suits before words given x suits e =
    let bad_word = not (is_at words 1 (codes "uniform")) || not (eqb (length words) 3) in
    let uniform = not_err (is_distribution words) Unsupported (first_fault (is_not_fixed words 2) bad_word (not (is_one words 2)) false given) x e in
    subst (Suits before) (accepted (is_not_fixed words 2) bad_word (not (is_one words 2)) false given x uniform.1).1 suits

number_suits : (before : List ArchLine) (words : List (List ℕ)) (given x : ArchLine) → Suits before given → number_line words given ≡ Ok x → Suits before x
unfolding number_line
number_suits before words given x suits e = subst (Suits before) (accepted (has words 1 && is_none (number_in words 1)) (not (eqb (length words) 2)) false false given x e).1 suits

value_suits : (before : List ArchLine) (make : ℕ → ArchLine) (r : Result ℕ LineFault) (x : ArchLine) → ((v : ℕ) → Suits before (make v)) → (r >>= λ v. Ok (make v)) ≡ Ok x → Suits before x
value_suits before make (Ok v) x suits e = let is : make v ≡ x = cc in subst (Suits before) is (suits v)
value_suits before make (Err f) x suits e = absurd cc

-- the last of the faults of a line
last_suits : (before : List ArchLine) (b : Bool) (given x : ArchLine) (f : LineFault) → Suits before given → cond b (Ok given) (Err f) ≡ Ok x → Suits before x
last_suits before true given x f suits e = let is : given ≡ x = cc in subst (Suits before) is suits
last_suits before false given x f suits e = absurd cc

either_suits : (before : List ArchLine) (b : Bool) (given x : ArchLine) (r : Result ArchLine LineFault) → Suits before given → (r ≡ Ok x → Suits before x) → cond b (Ok given) r ≡ Ok x → Suits before x
either_suits before true given x r suits rest e = let is : given ≡ x = cc in subst (Suits before) is suits
either_suits before false given x r suits rest e = rest e

switch_block_type_suits : (before : List ArchLine) (words : List (List ℕ)) (x : ArchLine) → switch_block_type_line words ≡ Ok x → Suits before x
unfolding switch_block_type_line
switch_block_type_suits before words x e =
    let is_subset : Result ArchLine LineFault = cond (is_at words 1 (codes "subset")) (Ok line.SwitchBlockType) (Err BadWord) in
    let others = is_at words 1 (codes "wilton") || is_at words 1 (codes "universal") in
    let two = not_err (not (eqb (length words) 2)) BadWord (cond others (Err Unsupported) is_subset) x e in
    let subset = not_err others Unsupported is_subset x two.1 in
    last_suits before (is_at words 1 (codes "subset")) line.SwitchBlockType x BadWord tt subset.1

fc_type_suits : (before : List ArchLine) (words : List (List ℕ)) (x : ArchLine) → fc_type_line words ≡ Ok x → Suits before x
unfolding fc_type_line
fc_type_suits before words x e =
    let absolute = is_at words 1 (codes "absolute") in
    let fractional = is_at words 1 (codes "fractional") in
    let last : Result ArchLine LineFault = cond fractional (Ok (line.FcType Fractional)) (Err BadWord) in
    let two = not_err (not (eqb (length words) 2)) BadWord (cond absolute (Ok (line.FcType Absolute)) last) x e in
    either_suits before absolute (line.FcType Absolute) x last tt (λ h. last_suits before fractional (line.FcType Fractional) x BadWord tt h) two.1

switch_suits : (before : List ArchLine) (words : List (List ℕ)) (x : ArchLine) → switch_line before words ≡ Ok x → Suits before x
unfolding switch_line
switch_suits before words x e =
    let pairs = drop 2 words in
    let bad_word = not (has_switch_keys pairs) || not (is_buffer_word pairs) in
    let too_many = ltb 255 (unwrap_or (number_in words 1) 0) in
    let new = not_err (repeats_switch before words) Repeated (first_fault (has_bad_number words) bad_word false too_many (line.Switch (switch_in words))) x e in
    subst (Suits before) (accepted (has_bad_number words) bad_word false too_many (line.Switch (switch_in words)) x new.1).1 tt

says_suits : (before : List ArchLine) (words : List (List ℕ)) (k : Keyword) (x : ArchLine) → says before words k ≡ Ok x → Suits before x
unfolding says
says_suits before words keyword.IoRat x e = io_rat_suits before words x e
says_suits before words keyword.ChanWidthIo x e = chan_width_io_suits before words x e
says_suits before words keyword.ChanWidthX x e = channel_suits before words line.ChanWidthX x tt e
says_suits before words keyword.ChanWidthY x e = channel_suits before words line.ChanWidthY x tt e
says_suits before words keyword.Inpin x e = pin_suits before Input words x e
says_suits before words keyword.Outpin x e = pin_suits before Output words x e
says_suits before words keyword.SubblocksPerClb x e = number_suits before words line.SubblocksPerClb x tt e
says_suits before words keyword.SubblockLutSize x e = number_suits before words line.SubblockLutSize x tt e
says_suits before words keyword.SwitchBlockType x e = switch_block_type_suits before words x e
says_suits before words keyword.FcType x e = fc_type_suits before words x e
says_suits before words keyword.FcOutput x e = value_suits before (λ v. line.FcOutput v) (fixed_value words) x (λ v. tt) e
says_suits before words keyword.FcInput x e = value_suits before (λ v. line.FcInput v) (fixed_value words) x (λ v. tt) e
says_suits before words keyword.FcPad x e = value_suits before (λ v. line.FcPad v) (fixed_value words) x (λ v. tt) e
says_suits before words keyword.Segment x e = segment_suits before words x e
says_suits before words keyword.Switch x e = switch_suits before words x e

judged_suits : (before : List ArchLine) (words : List (List ℕ)) (k : Option Keyword) (x : ArchLine) → judged before words k ≡ Ok x → Suits before x
unfolding judged
judged_suits before words None x e = absurd cc
judged_suits before words (Some k) x e = says_suits before words k x (not_err (is_repeated before k) Repeated (says before words k) x e).1

judge_suits : (before : List ArchLine) (words : List (List ℕ)) (x : ArchLine) → judge before words ≡ Ok x → Suits before x
unfolding judge
judge_suits before words x e = judged_suits before words (keyword_at words) x e

-- ---- all lines

step_kept : (b : Bool) (j : Result ArchLine LineFault) (n : ℕ) (before : List ArchLine) (ls : List Line) (es : List ArchLine)
    → ((front : List ArchLine) → KeepLimits front → entries_from front ls ≡ Ok es → KeepLimits es)
    → ((x : ArchLine) → j ≡ Ok x → Suits before x)
    → KeepLimits before
    → cond b (entries_from before ls) (at_number n j >>= λ x. entries_from (before ++ x ∷ []) ls) ≡ Ok es → KeepLimits es
step_kept true j n before ls es rest suits k e = rest before k e
step_kept false (Ok x) n before ls es rest suits k e = rest (before ++ x ∷ []) (KeepLimits-push before x k (suits x refl)) e
step_kept false (Err f) n before ls es rest suits k e = absurd cc

kept_from : (before : List ArchLine) (ls : List Line) (es : List ArchLine) → KeepLimits before → entries_from before ls ≡ Ok es → KeepLimits es
unfolding entries_from
kept_from before [] es k e = let is : before ≡ es = cc in subst KeepLimits is k
kept_from before (l ∷ ls) es k e =
    step_kept (is_passed l.words) (judge before l.words) l.number before ls es (λ front kept h. kept_from front ls es kept h) (λ x j. judge_suits before l.words x j) k e

none_kept : KeepLimits []
none_kept = record { pads = All-nil IsPads; few_pins = omega arith; few_classes = All-nil (λ p. p.class < 64); one_direction = All-nil (λ p. direction_in [] p.class ≡ Some p.direction); few_segments = omega arith; segment_lengths = All-nil (λ s. IsSegmentLength s.length) }

-- ---- a whole architecture

fits_step : {X : Type 0} (h : ArchLine → Option X) (P : X → Type 0) (ls : List ArchLine) (o : Option X) (v : X)
    → ((w : X) → P w → All P (filter_map h ls) → P (value_in h ls w))
    → P v → All P (cons_option o (filter_map h ls)) → P (value_in h ls (unwrap_or o v))
fits_step h P ls None v rest p all = rest v p all
fits_step h P ls (Some n) v rest p all = rest n (All-head P n (filter_map h ls) all) (All-tail P n (filter_map h ls) all)

fits_from : {X : Type 0} (h : ArchLine → Option X) (P : X → Type 0) (ls : List ArchLine) (v : X) → P v → All P (filter_map h ls) → P (value_in h ls v)
fits_from h P [] v p all = p
fits_from h P (x ∷ ls) v p all = fits_step h P ls (h x) v (λ w q each. fits_from h P ls w q each) p all

given_step : {X : Type 0} (h : ArchLine → Option X) (P : X → Type 0) (ls : List ArchLine) (o : Option X) (v : X)
    → (1 ≤ length (filter_map h ls) → All P (filter_map h ls) → P (value_in h ls v))
    → 1 ≤ length (cons_option o (filter_map h ls)) → All P (cons_option o (filter_map h ls)) → P (value_in h ls (unwrap_or o v))
given_step h P ls None v rest some all = rest some all
given_step h P ls (Some n) v rest some all = fits_from h P ls n (All-head P n (filter_map h ls) all) (All-tail P n (filter_map h ls) all)

-- a value that a line gives fits, whatever stands for one that no line gives
fits_given : {X : Type 0} (h : ArchLine → Option X) (P : X → Type 0) (ls : List ArchLine) (v : X) → 1 ≤ length (filter_map h ls) → All P (filter_map h ls) → P (value_in h ls v)
fits_given h P [] v some all = absurd (omega arith)
fits_given h P (x ∷ ls) v some all = given_step h P ls (h x) v (λ more_of each. fits_given h P ls v more_of each) some all

no_pads_keyword : (d : Direction) → same_keyword (keyword_of_pin d) keyword.IoRat ≡ false
no_pads_keyword Input = refl
no_pads_keyword Output = refl

gives_pads : (ls : List ArchLine) → has_keyword ls keyword.IoRat ≡ true → 1 ≤ length (filter_map io_rat_of ls)
unfolding has_keyword
gives_pads [] e = absurd cc
gives_pads (line.IoRat n ∷ ls) e = omega arith
gives_pads (line.Pin p ∷ ls) e = gives_pads ls (or_true (same_keyword (keyword_of_pin p.direction) keyword.IoRat) (has_keyword ls keyword.IoRat) e (no_pads_keyword p.direction))
gives_pads (line.ChanWidthIo ∷ ls) e = gives_pads ls e
gives_pads (line.ChanWidthX ∷ ls) e = gives_pads ls e
gives_pads (line.ChanWidthY ∷ ls) e = gives_pads ls e
gives_pads (line.SubblocksPerClb ∷ ls) e = gives_pads ls e
gives_pads (line.SubblockLutSize ∷ ls) e = gives_pads ls e
gives_pads (line.SwitchBlockType ∷ ls) e = gives_pads ls e
gives_pads (line.FcType v ∷ ls) e = gives_pads ls e
gives_pads (line.FcOutput v ∷ ls) e = gives_pads ls e
gives_pads (line.FcInput v ∷ ls) e = gives_pads ls e
gives_pads (line.FcPad v ∷ ls) e = gives_pads ls e
gives_pads (line.Segment v ∷ ls) e = gives_pads ls e
gives_pads (line.Switch v ∷ ls) e = gives_pads ls e

some_of : (n : ℕ) → eqb n 0 ≡ false → 1 ≤ n
some_of n e = let not_none : n ≢ 0 = eqb-false n 0 e in omega (arith, not_none)

-- lines that are all accepted, and miss nothing, are an architecture within the limits
pub within : (ls : List Line) (es : List ArchLine) → entries_from [] ls ≡ Ok es → missing_of es ≡ None → IsWithinLimits (architecture_from es)
unfolding missing_of
within ls es e m =
    let k = kept_from [] ls es none_kept e in
    let m0 = passed (not (has_keyword es keyword.IoRat)) _ _ m in
    let m1 = passed (not (has_keyword es keyword.ChanWidthIo)) _ _ m0.1 in
    let m2 = passed (not (has_keyword es keyword.ChanWidthX)) _ _ m1.1 in
    let m3 = passed (not (has_keyword es keyword.ChanWidthY)) _ _ m2.1 in
    let m4 = passed (eqb (length (pins_of es)) 0) _ _ m3.1 in
    let m5 = passed (has_gap es) _ _ m4.1 in
    let m6 = passed (not (has_keyword es keyword.SwitchBlockType)) _ _ m5.1 in
    let m7 = passed (not (has_keyword es keyword.FcType)) _ _ m6.1 in
    let m8 = passed (not (has_keyword es keyword.FcOutput)) _ _ m7.1 in
    let m9 = passed (not (has_keyword es keyword.FcInput)) _ _ m8.1 in
    let m10 = passed (not (has_keyword es keyword.FcPad)) _ _ m9.1 in
    let m11 = passed (eqb (length (segments_of es)) 0) _ _ m10.1 in
    let pads = fits_given io_rat_of IsPads es 0 (gives_pads es (not-false (has_keyword es keyword.IoRat) m0.0)) k.pads in
    record {
      some_pads = pads.0;
      few_pads = pads.1;
      some_pins = some_of (length (pins_of es)) m4.0;
      few_pins = k.few_pins;
      few_classes = k.few_classes;
      one_direction = k.one_direction;
      some_segments = some_of (length (segments_of es)) m11.0;
      few_segments = k.few_segments;
      segment_lengths = k.segment_lengths;
    }
