-- What classes say of tokens past a block.
use Rattle.std.proofs.Common.{◌≡◌, ℕ, zero, suc, ◌+◌, ◌*◌, ◌<◌, ◌≤◌, List, [], ◌∷◌, Option, Some, None, Bool, true, false, cond, refl, sym, subst, arith}
use Rattle.std.specs.Prelude.{slice_index, slice_index_or, slice_get, nat_eq, IsSome}
use Rattle.std.proofs.lemmas.Bool.{false≢true}
use Rattle.mir_func.specs.Graph.{Program}
use Rattle.sem_value_ids.specs.sem_mir.ValueId.{Token, Made, Tokens}
use Rattle.sem_value_ids.specs.Pullback.{token_of}
use Rattle.sem_value_ids.proofs.Naming.{IsOld, IsOlder}
use Rattle.sem_value_ids.proofs.Made.{path_is_old}
use Rattle.value_solver.specs.declared.tracked.Tracked.{Tracked}
use Rattle.value_solver.specs.Entry.{thing, PathTo}
use Rattle.value_solver.specs.declared.flow.Source.{Source}
use Rattle.value_solver.specs.declared.flow.Source.TheVariants.{Was, New, Nameless}
use Rattle.value_solver.specs.declared.flow.Change.{Change}
use Rattle.value_solver.specs.Numbering.{class_in}
use Rattle.value_solver.specs.Joining.{class_past, bit_past, SourceWithin, AreWithin, source_from, source_at}
use Rattle.value_solver.specs.Flows.{token_at, thing_token, told}

-- ---- sources are within

from_within : (n : ℕ) (s : Source) (cs : List Change) (i : ℕ) → SourceWithin n s → AreWithin n cs → SourceWithin n (source_from s cs i)
from_within n s [] i h w = h
from_within n s (c ∷ cs) i h (a, b, w) =
    from_within n (cond (nat_eq c.thing i) c.source s) cs i
    (elim (nat_eq c.thing i) as (λ z. SourceWithin n (cond z c.source s)) [ true ↦ b | false ↦ h ]) w

-- a source of things, or of what lies beyond them
abbrev pub IsFit : Source → Type 0
IsFit (Was j) = Unit {0}
IsFit (New k r) = r < 4128
IsFit Nameless = Unit {0}

fit_from : (n : ℕ) (s : Source) (cs : List Change) (i : ℕ) → IsFit s → AreWithin n cs → IsFit (source_from s cs i)
fit_from n s [] i h w = h
fit_from n s (c ∷ cs) i h (a, b, w) =
    fit_from n (cond (nat_eq c.thing i) c.source s) cs i
    (elim (nat_eq c.thing i) as (λ z. IsFit (cond z c.source s)) [ true ↦ fit c.source b | false ↦ h ]) w where
      fit : (s : Source) → SourceWithin n s → IsFit s
      fit (Was j) h = tt
      fit (New k r) h = h
      fit Nameless h = tt

pub source_fit : (n : ℕ) (cs : List Change) (x : ℕ) → AreWithin n cs → IsFit (source_at cs x)
source_fit n cs zero w = tt
source_fit n cs (suc i) w = fit_from n (Was i) cs i tt w

-- ---- tokens are older than those made now

old_thing : (n : ℕ) (xs : Option Tracked) (t : Tokens) → ((x : Tracked) → IsOld n (token_of (thing x) t)) → IsOld n (thing_token xs t)
old_thing n None t h = tt
old_thing n (Some x) t h = h x

pub old_at : (g : Program) (b n : ℕ) (t : Tokens) (xs : List Tracked) (x : ℕ) → PathTo g b n t → IsOld n (token_at xs x t)
old_at g b n t xs zero path = tt
old_at g b n t xs (suc i) path = old_thing n (slice_get xs i) t (λ x. path_is_old path (thing x))

not_new : (n k r : ℕ) (x : Option Token) → IsOld n x → x ≡ Some (Made (n + k) r) → ⊥
not_new n k r None old e = cc
not_new n k r (Some z) old e =
    let same : z ≡ Made (n + k) r = cc in
    let less : n + k < n = subst (λ (q : Token). IsOlder n q) same old in
    omega arith

-- ---- one class, one token

same_new : (k r l q : ℕ) → r < 4128 → q < 4128 → 4128 * k + r ≡ 4128 * l + q → (k ≡ l) × (r ≡ q)
same_new k r l q hr hq e = (omega arith, omega arith)

-- classes that say what tokens are one
abbrev pub SayOne : List Tracked → List ℕ → Tokens → Type 0
SayOne xs cs t = (x y : ℕ) → class_in cs x ≡ class_in cs y → token_at xs x t ≡ token_at xs y t

pub one_past : (n m : ℕ) (cs : List ℕ) (xs : List Tracked) (t : Tokens) (a b : Source) → ((i : ℕ) → slice_index cs i ≤ n) → IsFit a → IsFit b → SayOne xs cs t →
    class_past n cs a ≡ class_past n cs b → told xs m t a ≡ told xs m t b
one_past n m cs xs t (Was i) (Was j) few fa fb one e = one (suc i) (suc j) e
one_past n m cs xs t (Was i) (New k r) few fa fb one e = absurd (omega (arith, e, few i))
one_past n m cs xs t (Was i) Nameless few fa fb one e = one (suc i) 0 e
one_past n m cs xs t (New k r) (Was j) few fa fb one e = absurd (omega (arith, e, few j))
one_past n m cs xs t (New k r) (New l q) few fa fb one e =
    let (same, reg) = same_new k r l q fa fb (omega (arith, e)) in (λ z. Some (Made (m + same z) (reg z)))
one_past n m cs xs t (New k r) Nameless few fa fb one e = absurd (omega (arith, e))
one_past n m cs xs t Nameless (Was j) few fa fb one e = one 0 (suc j) e
one_past n m cs xs t Nameless (New l q) few fa fb one e = absurd (omega (arith, e))
one_past n m cs xs t Nameless Nameless few fa fb one e = refl

pub given_past : (m : ℕ) (gs : List Bool) (xs : List Tracked) (t : Tokens) (a : Source) → ((i : ℕ) → slice_index_or gs i false ≡ true →
    IsSome (token_at xs (suc i) t)) →
    bit_past gs a ≡ true → IsSome (told xs m t a)
given_past m gs xs t (Was j) h e = h j e
given_past m gs xs t (New k r) h e = refl
given_past m gs xs t Nameless h e = absurd (false≢true e)

-- ---- two classes, two tokens on some path

pub record Apart (g : Program) (b : ℕ) (f h : ℕ → Tokens → Option Token) : Type 0 where
  pub steps : ℕ
  pub tokens : Tokens
  pub path : PathTo g b steps tokens
  pub differ : f steps tokens ≡ h steps tokens → ⊥

pub record Missing (g : Program) (b : ℕ) (f : ℕ → Tokens → Option Token) : Type 0 where
  pub steps : ℕ
  pub tokens : Tokens
  pub path : PathTo g b steps tokens
  pub none : f steps tokens ≡ None

pub apart_past : (n m : ℕ) (t : Tokens) (g : Program) (p : ℕ) (cs : List ℕ) (xs : List Tracked) (a b : Source) → PathTo g p m t →
    ((x y : ℕ) → (class_in cs x ≡ class_in cs y → ⊥) → Apart g p (λ k u. token_at xs x u) (λ k u. token_at xs y u)) →
    (class_past n cs a ≡ class_past n cs b → ⊥) →
    Apart g p (λ k u. told xs k u a) (λ k u. told xs k u b)
apart_past n m t g p cs xs (Was i) (Was j) path w d = let r = w (suc i) (suc j) d in record {
  steps = r.steps;
  tokens = r.tokens;
  path = r.path;
  differ = r.differ;
}
apart_past n m t g p cs xs (Was i) (New k r) path w d =
    record { steps = m; tokens = t; path = path; differ = λ e. not_new m k r _ (old_at g p m t xs (suc i) path) e }
apart_past n m t g p cs xs (Was i) Nameless path w d = let r = w (suc i) 0 d in record { steps = r.steps; tokens = r.tokens; path = r.path; differ = r.differ }
apart_past n m t g p cs xs (New k r) (Was j) path w d =
    record { steps = m; tokens = t; path = path; differ = λ e. not_new m k r _ (old_at g p m t xs (suc j) path) (sym e) }
apart_past n m t g p cs xs (New k r) (New l q) path w d =
    record { steps = m; tokens = t; path = path; differ = λ e. d (made k r l q e) } where
      made : (k r l q : ℕ) → Some (Made (m + k) r) ≡ Some (Made (m + l) q) → n + 1 + 4128 * k + r ≡ n + 1 + 4128 * l + q
      made k r l q e =
          let index : m + k ≡ m + l = cc in
          let register : r ≡ q = cc in
          let same : k ≡ l = omega (arith, index) in
          (λ z. n + 1 + 4128 * same z + register z)
apart_past n m t g p cs xs (New k r) Nameless path w d = record { steps = m; tokens = t; path = path; differ = λ e. absurd (some_none e) } where
  some_none : {A : Type 0} {z : A} → Some z ≡ None → ⊥
  some_none e = cc
apart_past n m t g p cs xs Nameless (Was j) path w d = let r = w 0 (suc j) d in record { steps = r.steps; tokens = r.tokens; path = r.path; differ = r.differ }
apart_past n m t g p cs xs Nameless (New l q) path w d = record { steps = m; tokens = t; path = path; differ = λ e. absurd (none_some e) } where
  none_some : {A : Type 0} {z : A} → None ≡ Some z → ⊥
  none_some e = cc
apart_past n m t g p cs xs Nameless Nameless path w d = absurd (d refl)

pub missing_past : (m : ℕ) (t : Tokens) (g : Program) (p : ℕ) (gs : List Bool) (xs : List Tracked) (a : Source) → PathTo g p m t →
    ((i : ℕ) → slice_index_or gs i false ≡ false → Missing g p (λ k u. token_at xs (suc i) u)) → bit_past gs a ≡ false →
    Missing g p (λ k u. told xs k u a)
missing_past m t g p gs xs (Was j) path w e = let r = w j e in record { steps = r.steps; tokens = r.tokens; path = r.path; none = r.none }
missing_past m t g p gs xs (New k r) path w e = absurd (false≢true (sym e))
missing_past m t g p gs xs Nameless path w e = record { steps = m; tokens = t; path = path; none = refl }

-- ---- finer classes are finer past a block

pub finer_past : (n m : ℕ) (cs ds : List ℕ) (a b : Source) → ((i : ℕ) → slice_index cs i ≤ n) → IsFit a → IsFit b →
    ((x y : ℕ) → class_in cs x ≡ class_in cs y → class_in ds x ≡ class_in ds y) → class_past n cs a ≡ class_past n cs b → class_past m ds a ≡ class_past m ds b
finer_past n m cs ds (Was i) (Was j) few fa fb one e = one (suc i) (suc j) e
finer_past n m cs ds (Was i) (New k r) few fa fb one e = absurd (omega (arith, e, few i))
finer_past n m cs ds (Was i) Nameless few fa fb one e = one (suc i) 0 e
finer_past n m cs ds (New k r) (Was j) few fa fb one e = absurd (omega (arith, e, few j))
finer_past n m cs ds (New k r) (New l q) few fa fb one e = omega (arith, e)
finer_past n m cs ds (New k r) Nameless few fa fb one e = absurd (omega (arith, e))
finer_past n m cs ds Nameless (Was j) few fa fb one e = one 0 (suc j) e
finer_past n m cs ds Nameless (New l q) few fa fb one e = absurd (omega (arith, e))
finer_past n m cs ds Nameless Nameless few fa fb one e = refl

pub less_past : (gs hs : List Bool) (a : Source) → ((i : ℕ) → slice_index_or gs i false ≡ true → slice_index_or hs i false ≡ true) → bit_past gs a ≡ true →
    bit_past hs a ≡ true
less_past gs hs (Was j) h e = h j e
less_past gs hs (New k r) h e = refl
less_past gs hs Nameless h e = e
