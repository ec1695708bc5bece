-- A round, as the loop makes it, and the sums of spans.
use Rattle.std.proofs.Common.{◌≡◌, ℕ, zero, suc, ◌+◌, ◌<◌, ◌≤◌, Bool, true, false, cond, List, [], ◌∷◌, ◌++◌, length, take, drop, set, get_or, refl, sym, ap}
use Rattle.std.proofs.Common.{subst, ◌∙◌, arith}
use Rattle.std.specs.Prelude.{slice_index}
use Rattle.std.proofs.lemmas.List.{drop_all, drop_more, append_assoc, set_at, get_or_at, take_all, append-nil, take_more, length-take-le}
use Rattle.std.proofs.lemmas.List.Sums.{sum_by-cons, sum_by-append}
use Rattle.emit_code.specs.declared.span.Span.{Span}
use Rattle.emit_code.specs.declared.span.Span.TheVariants.{Nothing, OneWord, CallSite, Short, Long}
use Rattle.emit_code.specs.steps.Spans.{span_size, short_count, shorts, sums_from, reaches, grown, grown_from, Rounds, further, Settles}
use Rattle.emit_code.proofs.Tables.{at_front}

-- ---- sums

pub sums_turn : (spans : List Span) (k n : ℕ) (s : Span) (sums : List ℕ) → k < length spans → s ≡ get_or spans k s →
    sums ++ sums_from n (drop k spans) ≡ sums_from 0 spans → (sums ++ n ∷ []) ++ sums_from (n + span_size s) (drop (k + 1) spans) ≡ sums_from 0 spans
sums_turn spans k n s sums lt is e =
    append_assoc sums (n ∷ []) (sums_from (n + span_size s) (drop (k + 1) spans))
    ∙ ap (λ (t : List Span). sums ++ sums_from n t) (sym (at_front spans k s lt is)) ∙ e

pub sums_done : (spans : List Span) (k n : ℕ) (sums : List ℕ) → length spans ≤ k → sums ++ sums_from n (drop k spans) ≡ sums_from 0 spans →
    sums ++ n ∷ [] ≡ sums_from 0 spans
sums_done spans k n sums le e = ap (λ (t : List Span). sums ++ sums_from n t) (sym (drop_all k spans le)) ∙ e

pub size_small : (s : Span) → span_size s ≤ 8
size_small Nothing = omega arith
size_small OneWord = omega arith
size_small CallSite = omega arith
size_small (Short t) = omega arith
size_small (Long t) = omega arith

-- ---- a round

length_grown : (sums : List ℕ) (k : ℕ) (spans : List Span) → length (grown_from sums k spans) ≡ length spans
length_grown sums k [] = refl
length_grown sums k (s ∷ spans) = omega (arith, length_grown sums (suc k) spans)

pub same_length : (sums : List ℕ) (k : ℕ) (spans : List Span) → length (grown_from sums k spans) ≡ length spans
same_length sums k spans = length_grown sums k spans

grown_push : (sums : List ℕ) (k : ℕ) (spans : List Span) (s : Span) (j : ℕ) → j ≡ k + length spans →
    grown_from sums k (spans ++ s ∷ []) ≡ grown_from sums k spans ++ grown sums j s ∷ []
grown_push sums k [] s j e = let same : j ≡ k = omega arith in rw same refl
grown_push sums k (x ∷ spans) s j e = ap (λ (t : List Span). grown sums k x ∷ t) (grown_push sums (suc k) spans s j (omega arith))

-- what the loop has made after some of the spans
abbrev pub made : (sums : List ℕ) → List Span → (index : ℕ) → List Span
made sums spans k = grown_from sums 0 (take k spans) ++ drop k spans

fewer_by : (b : Bool) (t : ℕ) → short_count (cond b (Short t) (Long t)) ≤ 1
fewer_by true t = omega arith
fewer_by false t = omega arith

at_most : (sums : List ℕ) (k : ℕ) (s : Span) → short_count (grown sums k s) ≤ short_count s
at_most sums k Nothing = omega arith
at_most sums k OneWord = omega arith
at_most sums k CallSite = omega arith
at_most sums k (Short t) = fewer_by (reaches (slice_index sums k) (slice_index sums t)) t
at_most sums k (Long t) = omega arith

changed_by : (b : Bool) (t : ℕ) → (cond b (Short t) (Long t) ≡ Short t → ⊥) → short_count (cond b (Short t) (Long t)) < 1
changed_by true t ne = absurd (ne refl)
changed_by false t ne = omega arith

pub fewer : (sums : List ℕ) (k : ℕ) (s : Span) → (grown sums k s ≡ s → ⊥) → short_count (grown sums k s) < short_count s
fewer sums k Nothing ne = absurd (ne refl)
fewer sums k OneWord ne = absurd (ne refl)
fewer sums k CallSite ne = absurd (ne refl)
fewer sums k (Short t) ne = changed_by (reaches (slice_index sums k) (slice_index sums t)) t ne
fewer sums k (Long t) ne = absurd (ne refl)

-- one more span is as after the round
pub made_more : (sums : List ℕ) (spans : List Span) (k : ℕ) (s : Span) → k < length spans → s ≡ get_or spans k s →
    made sums spans (k + 1) ≡ grown_from sums 0 (take k spans) ++ grown sums k s ∷ drop (k + 1) spans
made_more sums spans k s lt is =
    let taken : take (k + 1) spans ≡ take k spans ++ s ∷ [] = take_more spans k s lt ∙ ap (λ (x : Span). take k spans ++ x ∷ []) (sym is) in
    let size : k ≡ 0 + length (take k spans) = taken_length spans k lt in
    ap (λ (t : List Span). grown_from sums 0 t ++ drop (k + 1) spans) taken
    ∙ ap (λ (t : List Span). t ++ drop (k + 1) spans) (grown_push sums 0 (take k spans) s k size)
    ∙ append_assoc (grown_from sums 0 (take k spans)) (grown sums k s ∷ []) (drop (k + 1) spans)
  where
    taken_length : (xs : List Span) (j : ℕ) → j < length xs → j ≡ 0 + length (take j xs)
    taken_length [] zero l = omega arith
    taken_length [] (suc j) l = absurd (omega arith)
    taken_length (x ∷ xs) zero l = omega arith
    taken_length (x ∷ xs) (suc j) l = omega (arith, taken_length xs j (omega arith))

pub made_none : (sums : List ℕ) (spans : List Span) → made sums spans 0 ≡ spans
made_none sums spans = refl

pub made_all : (sums : List ℕ) (spans : List Span) (k : ℕ) → length spans ≤ k → made sums spans k ≡ grown_from sums 0 spans
made_all sums spans k le =
    ap (λ (t : List Span). grown_from sums 0 t ++ drop k spans) (take_all k spans le) ∙ ap (λ (t : List Span). grown_from sums 0 spans ++
    t) (drop_all k spans le)
    ∙ append-nil (grown_from sums 0 spans)

-- what the loop keeps
pub record IsMade (sums : List ℕ) (spans now : List Span) (k : ℕ) (found : Bool) : Type 0 where
  pub made : now ≡ made sums spans k
  pub most : shorts now ≤ shorts spans
  pub steady : found ≡ false → now ≡ spans
  pub fewer : found ≡ true → shorts now < shorts spans

made_length : (sums : List ℕ) (spans : List Span) (k : ℕ) → k ≤ length spans → length (grown_from sums 0 (take k spans)) ≡ k
made_length sums spans k le = length_grown sums 0 (take k spans) ∙ length-take-le k spans le

-- the span at the index is still the first one
old_span : (sums : List ℕ) (spans now : List Span) (k : ℕ) (s : Span) → k < length spans → now ≡ made sums spans k → s ≡ get_or now k s →
    s ≡ get_or spans k s
old_span sums spans now k s lt e is =
    let cut : drop k spans ≡ get_or spans k s ∷ drop (k + 1) spans = drop_more spans k s lt in
    is ∙ ap (λ (t : List Span). get_or t k s) (e ∙ ap (λ (t : List Span). grown_from sums 0 (take k spans) ++ t) cut)
    ∙ get_or_at (grown_from sums 0 (take k spans)) (get_or spans k s) (drop (k + 1) spans) s k (made_length sums spans k (omega arith))

now_parts : (sums : List ℕ) (spans now : List Span) (k : ℕ) (s : Span) → k < length spans → now ≡ made sums spans k → s ≡ get_or spans k s →
    now ≡ grown_from sums 0 (take k spans) ++ s ∷ drop (k + 1) spans
now_parts sums spans now k s lt e is = e ∙ ap (λ (t : List Span). grown_from sums 0 (take k spans) ++ t) (at_front spans k s lt is)

counted : (a rest : List Span) (s : Span) → shorts (a ++ s ∷ rest) ≡ shorts a + (short_count s + shorts rest)
counted a rest s = omega (arith, sum_by-append short_count a (s ∷ rest), sum_by-cons short_count s rest)

pub made_changed : (sums : List ℕ) (spans now next : List Span) (k : ℕ) (found : Bool) (s : Span) → IsMade sums spans now k found → k < length spans →
    s ≡ get_or now k s → (grown sums k s ≡ s → ⊥) → next ≡ set now k (grown sums k s) → IsMade sums spans next (k + 1) true
made_changed sums spans now next k found s is lt at ne e =
    let old : s ≡ get_or spans k s = old_span sums spans now k s lt is.made at in
    let parts = now_parts sums spans now k s lt is.made old in
    let made_next : next ≡ grown_from sums 0 (take k spans) ++ grown sums k s ∷ drop (k + 1) spans =
    e ∙ ap (λ (t : List Span). set t k (grown sums k s)) parts
    ∙ set_at (grown_from sums 0 (take k spans)) s (drop (k + 1) spans) (grown sums k s) k (made_length sums spans k (omega arith)) in
    let before = ap shorts parts ∙ counted (grown_from sums 0 (take k spans)) (drop (k + 1) spans) s in
    let after = ap shorts made_next ∙ counted (grown_from sums 0 (take k spans)) (drop (k + 1) spans) (grown sums k s) in
    let less = fewer sums k s ne in
    record {
      made = made_next ∙ sym (made_more sums spans k s lt old);
      most = omega (arith, before, after, less, is.most);
      steady = λ wrong. absurd cc;
      fewer = λ t. omega (arith, before, after, less, is.most);
    }

pub made_same : (sums : List ℕ) (spans now : List Span) (k : ℕ) (found : Bool) (s : Span) → IsMade sums spans now k found → k < length spans →
    s ≡ get_or now k s → grown sums k s ≡ s → IsMade sums spans now (k + 1) found
made_same sums spans now k found s is lt at same =
    let old : s ≡ get_or spans k s = old_span sums spans now k s lt is.made at in
    record {
      made = now_parts sums spans now k s lt is.made old
          ∙ ap (λ (x : Span). grown_from sums 0 (take k spans) ++ x ∷ drop (k + 1) spans) (sym same) ∙ sym (made_more sums spans k s lt old);
      most = is.most;
      steady = is.steady;
      fewer = is.fewer;
    }

pub made_at : (sums : List ℕ) (spans now next : List Span) (k : ℕ) (found : Bool) (s : Span) (t : ℕ) → IsMade sums spans now k found → k < length spans →
    s ≡ get_or now k s → (s ≡ Short t) × (grown sums k s ≡ Long t) → next ≡ set now k (Long t) → IsMade sums spans next (k + 1) true
made_at sums spans now next k found s t is lt at becomes e =
    let short : s ≡ Short t = becomes.0 in
    let long : grown sums k s ≡ Long t = becomes.1 in
    made_changed sums spans now next k found s is lt at (λ same. differ t (sym long ∙ same ∙ short)) (e ∙ ap (λ (x : Span). set now k x) (sym long))
  where
    differ : (n : ℕ) → Long n ≡ Short n → ⊥
    differ n same = cc

pub made_stays : (sums : List ℕ) (spans now next : List Span) (k : ℕ) (found other : Bool) (s : Span) → IsMade sums spans now k found → k < length spans →
    s ≡ get_or now k s → grown sums k s ≡ s → next ≡ now → other ≡ found → IsMade sums spans next (k + 1) other
made_stays sums spans now next k found other s is lt at same e f = rw (e, f) (made_same sums spans now k found s is lt at same)

-- one more round
pub more_rounds : (spans now next : List Span) (sums : List ℕ) → Rounds spans now → sums ≡ sums_from 0 now → next ≡ grown_from sums 0 now → Rounds spans next
more_rounds spans now next sums so e f =
    subst (Rounds spans) (ap (λ (t : List ℕ). grown_from t 0 now) (sym e) ∙ sym f) (further so)

-- a round that changes nothing
pub steady_round : (spans now next : List Span) (sums : List ℕ) → Rounds spans now → sums ≡ sums_from 0 now → next ≡ grown_from sums 0 now → next ≡ now →
    Settles spans next
steady_round spans now next sums so e f same =
    let round_now : grown_from (sums_from 0 now) 0 now ≡ now = ap (λ (t : List ℕ). grown_from t 0 now) (sym e) ∙ sym f ∙ same in
    rw same (record { rounds = so; steady = round_now })
