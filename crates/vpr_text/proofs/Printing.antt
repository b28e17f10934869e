-- How printing goes on from what was printed.
use Rattle.std.proofs.Common.{◌≡◌, ℕ, Bool, true, false, List, [], ◌++◌, take, drop, Option, ◌⊎◌, inl, inr, refl, sym, ap, subst, ◌∙◌, append_assoc}
use Rattle.std.specs.Io.KnownBytes.{Appends}
use Rattle.std.proofs.KnownBytes.{Appends-nil, Appends-trans}
use Rattle.std.proofs.lemmas.List.{append-nil, take-append-drop}
use Rattle.std.proofs.lemmas.Bool.{false≢true}
use Rattle.vpr_text.specs.Output.{Buffer, Stream, stream, Prints, Breaks, Sends}

sound_then : (a b c : Bool) (x y : List ℕ) → (b ≡ false) ⊎ ((x ≡ []) × (b ≡ a)) → (c ≡ false) ⊎ ((y ≡ []) × (c ≡ b)) → (c ≡ false) ⊎ ((x ++ y ≡ []) × (c ≡ a))
sound_then a b c x y p (inl q) = inl q
sound_then a b c x y (inl p) (inr q) = inl (q.1 ∙ p)
sound_then a b c x y (inr p) (inr q) = inr (ap (λ (s : List ℕ). s ++ y) p.0 ∙ q.0, q.1 ∙ p.1)

joined : (h m k x y f g : List ℕ) → h ++ x ≡ f ++ m → m ++ y ≡ g ++ k → h ++ (x ++ y) ≡ (f ++ g) ++ k
joined h m k x y f g p q =
    sym (append_assoc h x y) ∙ (ap (λ (s : List ℕ). s ++ y) p ∙ (append_assoc f m y ∙ (ap (λ (s : List ℕ). f ++ s) q ∙ sym (append_assoc f g k))))

-- nothing is printed by nothing
pub prints_none : (s : Stream) → Prints s s []
prints_none s = record { front = []; whole = append-nil s.buffer.held; taken = Appends-nil s.taken; sound = inr (refl, refl) }

-- one text is printed after another
pub prints_then : {r s t : Stream} {x y : List ℕ} → Prints r s x → Prints s t y → Prints r t (x ++ y)
prints_then {r} {s} {t} {x} {y} p q = record {
  front = p.front ++ q.front;
  whole = joined r.buffer.held s.buffer.held t.buffer.held x y p.front q.front p.whole q.whole;
  taken = Appends-trans r.taken s.taken t.taken p.front q.front p.taken q.taken;
  sound = sound_then r.failed s.failed t.failed p.front q.front p.sound q.sound;
}

-- a text breaks off after another
pub breaks_then : {r s t : Stream} {x y : List ℕ} → Prints r s x → Breaks s t y → Breaks r t (x ++ y)
breaks_then {r} {s} {t} {x} {y} p q = record {
  front = p.front ++ q.front;
  rest = q.rest;
  whole = joined r.buffer.held s.buffer.held q.rest x y p.front q.front p.whole q.whole;
  taken = Appends-trans r.taken s.taken t.taken p.front q.front p.taken q.taken;
  failed = q.failed;
}

-- a text that breaks off may have had more after it
pub breaks_more : {s t : Stream} {x : List ℕ} (y : List ℕ) → Breaks s t x → Breaks s t (x ++ y)
breaks_more {s} {t} {x} y p = record {
  front = p.front;
  rest = p.rest ++ y;
  whole = sym (append_assoc s.buffer.held x y) ∙ (ap (λ (h : List ℕ). h ++ y) p.whole ∙ append_assoc p.front p.rest y);
  taken = p.taken;
  failed = p.failed;
}

broken-cases : (b : Bool) → (b ≡ false) ⊎ (b ≡ true)
broken-cases true = inr refl
broken-cases false = inl refl

is-not-broken : (s t : Stream) (y : List ℕ) → Sends s t y → t.buffer.broken ≡ false → s.buffer.broken ≡ false
is-not-broken s t y q e = elim (broken-cases s.buffer.broken) [ inl f ↦ f | inr b ↦ sym (ap (λ (u : Stream). u.buffer.broken) (q.stays b)) ∙ e ]

-- one text is sent after another
pub sends_then : {r s t : Stream} {x y : List ℕ} → Sends r s x → Sends s t y → Sends r t (x ++ y)
sends_then {r} {s} {t} {x} {y} p q = record {
  prints = λ e. let f = is-not-broken s t y q e in prints_then (p.prints f) (q.prints e);
  breaks = λ e f. elim (broken-cases s.buffer.broken) [
    | inl sound ↦ breaks_then (p.prints sound) (q.breaks sound f)
    | inr broken ↦ subst (λ (u : Stream). Breaks r u (x ++ y)) (sym (q.stays broken)) (breaks_more y (p.breaks e broken))
  ];
  stays = λ e. let same = p.stays e in q.stays (ap (λ (u : Stream). u.buffer.broken) same ∙ e) ∙ same;
}

-- nothing is sent by nothing
pub sends_none : (s : Stream) → Sends s s []
sends_none s = record { prints = λ e. prints_none s; breaks = λ e f. absurd (false≢true (sym e ∙ f)); stays = λ e. refl }

-- n more of the held bytes were taken
pub takes_more : (s : Stream) (taken taken' : Option (List ℕ)) (failed failed' : Bool) (held : List ℕ) (n : ℕ) (text : List ℕ)
    → Prints s (stream taken failed (record { held = held; broken = false })) text → Appends taken taken' (take n held) → failed' ≡ false
    → Prints s (stream taken' failed' (record { held = drop n held; broken = false })) text
takes_more s taken taken' failed failed' held n text p a f = record {
  front = p.front ++ take n held;
  whole = p.whole ∙ (ap (λ (h : List ℕ). p.front ++ h) (sym (take-append-drop n held)) ∙ sym (append_assoc p.front (take n held) (drop n held)));
  taken = Appends-trans s.taken taken taken' p.front (take n held) p.taken a;
  sound = inl f;
}

-- what is held after the bytes that were held is sent
pub sends_held : (taken : Option (List ℕ)) (failed : Bool) (old new : Buffer) (bytes : List ℕ)
    → (old.broken ≡ false → new ≡ record { held = old.held ++ bytes; broken = false }) → (old.broken ≡ true → new ≡ old)
    → Sends (stream taken failed old) (stream taken failed new) bytes
sends_held taken failed old new bytes held stays =
    elim (broken-cases old.broken) [
      | inl sound ↦ let e = held sound in record {
        prints = λ _. record { front = []; whole = sym (ap (λ (b : Buffer). b.held) e); taken = Appends-nil taken; sound = inr (refl, refl) };
        breaks = λ _ f. absurd (false≢true (sym (ap (λ (b : Buffer). b.broken) e) ∙ f));
        stays = λ f. absurd (false≢true (sym sound ∙ f));
      }
      | inr broken ↦ let e = stays broken in record {
        prints = λ f. absurd (false≢true (sym f ∙ (ap (λ (b : Buffer). b.broken) e ∙ broken)));
        breaks = λ f _. absurd (false≢true (sym f ∙ broken));
        stays = λ _. ap (λ (b : Buffer). stream taken failed b) e;
      }
    ]
