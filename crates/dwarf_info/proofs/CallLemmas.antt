-- The calls of a function while they are written: what was written and what is left are the whole at each step.
-- Plan: what is left is written from its end. A call is replaced by its own end and by the calls in its code, which are those with its number as their parent;
-- all of these stand behind it.
use Rattle.std.proofs.Common.{◌≡◌, ℕ, zero, suc, ◌+◌, ◌<◌, ◌≤◌, Bool, true, false, cond, List, [], ◌∷◌, ◌++◌, length, drop, map, reverse, Option, Some, None}
use Rattle.std.proofs.Common.{refl, sym, ◌∙◌, ap, arith, nat_eq, append_assoc, append-nil, length-append}
use Rattle.std.specs.Prelude.{All}
use Rattle.std.specs.List.{flat_map}
use Rattle.std.specs.Option.{option_eq}
use Rattle.std.proofs.lemmas.Grind.{reverse_onto}
use Rattle.std.proofs.lemmas.List.Elements.{All-nil, All-cons, All-append, All-push, All-map, All-same, All-head, All-tail}
use Rattle.dwarf_info.specs.declared.inlined.InlinedCall.{InlinedCall}
use Rattle.dwarf_info.specs.declared.calls.Left.{Left}
use Rattle.dwarf_info.specs.declared.calls.Left.TheVariants.{Call, End}
use Rattle.dwarf_info.specs.Inlined.{calls_within, AreCalls}
use Rattle.dwarf_info.specs.steps.Within.{numbers_within, numbers_inside, first_bytes, left_bytes, all_left, IsLeft}
use Rattle.dwarf_info.proofs.WithinLemmas.{by_numbers, not_yet}

-- ---- what is left

abbrev as_calls : List ℕ → List Left
as_calls ns = map (λ k. Call k) ns

reverse_more : {X : Type 0} (x : X) (xs : List X) → reverse (x ∷ xs) ≡ reverse xs ++ x ∷ []
reverse_more x xs = reverse_onto xs x []

all_left_append : (bytes : ℕ → InlinedCall → List ℕ) (calls : List InlinedCall) (a b : List Left)
    → all_left bytes calls (a ++ b) ≡ all_left bytes calls b ++ all_left bytes calls a
all_left_append bytes calls [] b = sym (append-nil (all_left bytes calls b))
all_left_append bytes calls (l ∷ a) b =
    ap (λ (xs : List ℕ). xs ++ left_bytes bytes calls l) (all_left_append bytes calls a b)
    ∙ append_assoc (all_left bytes calls b) (all_left bytes calls a) (left_bytes bytes calls l)

-- calls that are left, the first of them last
all_left_calls : (bytes : ℕ → InlinedCall → List ℕ) (calls : List InlinedCall) (ns : List ℕ)
    → all_left bytes calls (reverse (as_calls ns)) ≡ flat_map (λ j. left_bytes bytes calls (Call j)) ns
all_left_calls bytes calls [] = refl
all_left_calls bytes calls (n ∷ ns) =
    ap (all_left bytes calls) (reverse_more (Call n) (as_calls ns))
    ∙ all_left_append bytes calls (reverse (as_calls ns)) (Call n ∷ [])
    ∙ ap (λ (xs : List ℕ). left_bytes bytes calls (Call n) ++ xs) (all_left_calls bytes calls ns)

-- ---- the calls in the code of one

drop_next : {X : Type 0} (xs : List X) (j : ℕ) (x : X) (rest : List X) → drop j xs ≡ x ∷ rest → drop (suc j) xs ≡ rest
drop_next [] zero x rest e = absurd cc
drop_next [] (suc j) x rest e = absurd cc
drop_next (y ∷ xs) zero x rest e = cc
drop_next (y ∷ xs) (suc j) x rest e = drop_next xs j x rest e

-- no call up to one is in its code
numbers_behind : (types abstracts k j : ℕ) (cs : List InlinedCall) (n : ℕ) → AreCalls types abstracts j cs → n + j ≡ suc k
    → numbers_within j cs (Some k) ≡ numbers_within (suc k) (drop n cs) (Some k)
numbers_behind types abstracts k j cs zero are e =
    let same : j ≡ suc k = omega (arith, e) in
    ap (λ (m : ℕ). numbers_within m cs (Some k)) same
numbers_behind types abstracts k j [] (suc n) are e = refl
numbers_behind types abstracts k j (c ∷ cs) (suc n) are e =
    let others = numbers_within (suc j) cs (Some k) in
    ap (λ (b : Bool). cond b (j ∷ others) others) (not_yet types abstracts k j c c.parent refl are.0.parent (omega (arith, e)))
    ∙ numbers_behind types abstracts k (suc j) cs n are.1 (omega (arith, e))

-- numbers of calls are below their count
numbers_below : (k : ℕ) (cs : List InlinedCall) (around : Option ℕ) (count : ℕ) → k + length cs ≤ count → All (λ n. n < count) (numbers_within k cs around)
numbers_below k [] around count few = All-nil (λ (n : ℕ). n < count)
numbers_below k (c ∷ cs) around count few =
    by (option_eq nat_eq c.parent around) (numbers_below (suc k) cs around count (omega (arith, few)))
  where
    by : (b : Bool) → All (λ n. n < count) (numbers_within (suc k) cs around)
        → All (λ n. n < count) (cond b (k ∷ numbers_within (suc k) cs around) (numbers_within (suc k) cs around))
    by true rest = All-cons (λ (n : ℕ). n < count) k (numbers_within (suc k) cs around) (omega (arith, few)) rest
    by false rest = rest

-- a call with those in its code, by their numbers
call_bytes_inside : (bytes : ℕ → InlinedCall → List ℕ) (types abstracts k : ℕ) (calls : List InlinedCall) (c : InlinedCall) → AreCalls types abstracts 0 calls
    → drop k calls ≡ c ∷ drop (suc k) calls
    → left_bytes bytes calls (Call k) ≡ (bytes k c ++ flat_map (λ j. left_bytes bytes calls (Call j)) (numbers_inside calls k)) ++ 0 ∷ []
call_bytes_inside bytes types abstracts k calls c are at =
    ap (first_bytes bytes k) at
    ∙ ap (λ (xs : List ℕ). (bytes k c ++ xs) ++ 0 ∷ [])
    (by_numbers bytes calls (suc k) (drop (suc k) calls) (Some k) refl (λ j d rest e. drop_next calls j d rest e)
    ∙ ap (flat_map (λ j. left_bytes bytes calls (Call j))) (sym (numbers_behind types abstracts k 0 calls (suc k) are (omega arith))))

-- ---- the state of the writer

all_reversed : {X : Type 0} (P : X → Type 0) (xs : List X) → All P xs → All P (reverse xs)
all_reversed P [] all = all
all_reversed P (x ∷ xs) all =
    All-same P _ _ (reverse_more x xs) (All-push P (reverse xs) x (all_reversed P xs (All-tail P x xs all)) (All-head P x xs all))

pub record IsWriting (bytes : ℕ → InlinedCall → List ℕ) (calls : List InlinedCall) (whole out : List ℕ) (left : List Left) : Type 0 where
  pub same : out ++ all_left bytes calls left ≡ whole
  pub are : All (IsLeft (length calls)) left

calls_left : (calls : List InlinedCall) (around : Option ℕ) → All (IsLeft (length calls)) (reverse (as_calls (numbers_within 0 calls around)))
calls_left calls around =
    all_reversed (IsLeft (length calls)) (as_calls (numbers_within 0 calls around))
    (All-map (IsLeft (length calls)) (λ k. Call k) (numbers_within 0 calls around) (numbers_below 0 calls around (length calls) (omega arith)))

module _ (bytes : ℕ → InlinedCall → List ℕ) (types abstracts : ℕ) (calls : List InlinedCall) where
  pub writing_begins : (out : List ℕ) (left : List Left) → left ≡ [] ++ reverse (as_calls (numbers_within 0 calls None))
      → IsWriting bytes calls (out ++ calls_within bytes 0 calls None) out left
  writing_begins out left is = record {
    same =
        ap (λ (ls : List Left). out ++ all_left bytes calls ls) is
        ∙ ap (λ (xs : List ℕ). out ++ xs)
        (all_left_calls bytes calls (numbers_within 0 calls None)
        ∙ sym (by_numbers bytes calls 0 calls None refl (λ j d rest e. drop_next calls j d rest e)));
    are = All-same (IsLeft (length calls)) _ _ is (calls_left calls None);
  }

  -- the end of a call's children is written
  pub writing_ends : (whole out next : List ℕ) (left rest : List Left) → IsWriting bytes calls whole out left → left ≡ rest ++ End ∷ []
      → All (IsLeft (length calls)) rest → next ≡ out ++ 0 ∷ [] → IsWriting bytes calls whole next rest
  writing_ends whole out next left rest w is are written = record {
    same =
        ap (λ (xs : List ℕ). xs ++ all_left bytes calls rest) written
        ∙ append_assoc out (0 ∷ []) (all_left bytes calls rest)
        ∙ ap (λ (xs : List ℕ). out ++ xs) (sym (ap (all_left bytes calls) is ∙ all_left_append bytes calls rest (End ∷ [])))
        ∙ w.same;
    are = are;
  }

  -- a call's entry is written
  pub writing_enters : (whole out next : List ℕ) (left rest now : List Left) (k : ℕ) (c : InlinedCall) → AreCalls types abstracts 0 calls
      → IsWriting bytes calls whole out left → left ≡ rest ++ Call k ∷ [] → All (IsLeft (length calls)) rest → drop k calls ≡ c ∷ drop (suc k) calls
      → next ≡ out ++ bytes k c → now ≡ (rest ++ End ∷ []) ++ reverse (as_calls (numbers_inside calls k)) → IsWriting bytes calls whole next now
  writing_enters whole out next left rest now k c are_calls w is are at written grown = record {
    same = same_bytes;
    are =
        All-same (IsLeft (length calls)) _ _ grown
        (All-append (IsLeft (length calls)) (rest ++ End ∷ []) (reverse (as_calls (numbers_inside calls k)))
        (All-push (IsLeft (length calls)) rest End are tt) (calls_left calls (Some k)));
  }
    where
      inside : List ℕ
      inside = flat_map (λ j. left_bytes bytes calls (Call j)) (numbers_inside calls k)

      now_left : all_left bytes calls now ≡ inside ++ (0 ∷ [] ++ all_left bytes calls rest)
      now_left =
          ap (all_left bytes calls) grown
          ∙ all_left_append bytes calls (rest ++ End ∷ []) (reverse (as_calls (numbers_inside calls k)))
          ∙ (λ i. all_left_calls bytes calls (numbers_inside calls k) i ++ all_left_append bytes calls rest (End ∷ []) i)

      was_left : all_left bytes calls left ≡ ((bytes k c ++ inside) ++ 0 ∷ []) ++ all_left bytes calls rest
      was_left =
          ap (all_left bytes calls) is ∙ all_left_append bytes calls rest (Call k ∷ [])
          ∙ ap (λ (xs : List ℕ). xs ++ all_left bytes calls rest) (call_bytes_inside bytes types abstracts k calls c are_calls at)

      moved : (a b n z l : List ℕ) → (a ++ b) ++ (n ++ (z ++ l)) ≡ a ++ (((b ++ n) ++ z) ++ l)
      moved a b n z l = simp append_assoc

      same_bytes : next ++ all_left bytes calls now ≡ whole
      same_bytes =
          (λ i. written i ++ now_left i) ∙ moved out (bytes k c) inside (0 ∷ []) (all_left bytes calls rest)
          ∙ ap (λ (xs : List ℕ). out ++ xs) (sym was_left) ∙ w.same

-- nothing is left
pub all_written : (bytes : ℕ → InlinedCall → List ℕ) (calls : List InlinedCall) (whole out : List ℕ) (left : List Left) → IsWriting bytes calls whole out left
    → left ≡ [] → out ≡ whole
all_written bytes calls whole out left w none =
    sym (append-nil out) ∙ ap (λ (ls : List Left). out ++ all_left bytes calls ls) (sym none) ∙ w.same

-- what was written is no longer than the whole
pub written_within : (bytes : ℕ → InlinedCall → List ℕ) (calls : List InlinedCall) (whole out : List ℕ) (left : List Left) → IsWriting bytes calls whole out left
    → length out ≤ length whole
written_within bytes calls whole out left w =
    let sizes : length out + length (all_left bytes calls left) ≡ length whole =
    sym (length-append out (all_left bytes calls left)) ∙ ap (λ (xs : List ℕ). length xs) w.same in
    omega (arith, sizes)

-- there is room in the whole for what is next
pub room_for : (bytes : ℕ → InlinedCall → List ℕ) (calls : List InlinedCall) (whole out : List ℕ) (left rest : List Left) (next : Left)
    → IsWriting bytes calls whole out left → left ≡ rest ++ next ∷ [] → length out + length (left_bytes bytes calls next) ≤ length whole
room_for bytes calls whole out left rest next w is =
    let all : all_left bytes calls left ≡ left_bytes bytes calls next ++ all_left bytes calls rest =
    ap (all_left bytes calls) is ∙ all_left_append bytes calls rest (next ∷ []) in
    let sizes : length out + length (all_left bytes calls left) ≡ length whole =
    sym (length-append out (all_left bytes calls left)) ∙ ap (λ (xs : List ℕ). length xs) w.same in
    let parts : length (all_left bytes calls left) ≡ length (left_bytes bytes calls next) + length (all_left bytes calls rest) =
    ap (λ (xs : List ℕ). length xs) all ∙ length-append (left_bytes bytes calls next) (all_left bytes calls rest) in
    omega (arith, sizes, parts)

-- a call is no longer than what is written of it
pub call_within : (bytes : ℕ → InlinedCall → List ℕ) (k : ℕ) (c : InlinedCall) (cs all : List InlinedCall) → drop k all ≡ c ∷ cs
    → length (bytes k c) ≤ length (left_bytes bytes all (Call k))
call_within bytes k c cs all at =
    let inside = calls_within bytes (suc k) cs (Some k) in
    let is : left_bytes bytes all (Call k) ≡ bytes k c ++ inside ++ 0 ∷ [] = ap (first_bytes bytes k) at in
    omega (arith, ap (λ (xs : List ℕ). length xs) is, length-append (bytes k c ++ inside) (0 ∷ []), length-append (bytes k c) inside)
