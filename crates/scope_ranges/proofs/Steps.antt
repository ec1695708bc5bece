-- Lists of ranges and of scopes, as the code changes them.
use Rattle.std.proofs.Common.{◌≡◌, ℕ, zero, suc, ◌+◌, ◌<◌, ◌≤◌, Bool, true, false, not, cond, List, [], ◌∷◌, ◌++◌, length, Option, Some, None, refl}
use Rattle.std.proofs.Common.{sym, ◌∙◌}
use Rattle.std.proofs.Common.{ap, subst, arith, slice_get, slice_set, get_or, eqb, eq-eqb, ne_eqb, append_assoc, append-nil, filter}
use Rattle.std.specs.List.{position_or_len}
use Rattle.dwarf_line_table.specs.Files.{with_new}
use Rattle.dwarf_line_table.proofs.FirstUses.{place_of_joined}
use Rattle.dwarf_rnglists.specs.declared.range.AddressRange.{AddressRange}
use Rattle.scope_ways.specs.declared.scope.LexicalScope.{LexicalScope}
use Rattle.scope_ways.specs.Ways.{is_same}
use Rattle.scope_ranges.specs.declared.scope.Scope.{Scope}
use Rattle.scope_ranges.specs.steps.Entered.{joined, places, with_addresses, with_code, index_in, entered, no_scope, IsEntering}
use Rattle.scope_ranges.proofs.Distinct.{same_self}
use Rattle.scope_ranges.proofs.Tables.{places_with}
use Rattle.scope_ranges.proofs.Ranges.{range}

-- ---- ranges

pub joined_none : (ranges rest : List AddressRange) (lo hi : ℕ) → ranges ≡ rest ++ [] → length ranges ≡ 0 → rest ++ range lo hi ∷ [] ≡ joined ranges lo hi
joined_none [] [] lo hi e none = refl
joined_none [] (r ∷ rest) lo hi e none = absurd (empty_is_more r (rest ++ []) e)
  where
    empty_is_more : (r : AddressRange) (rs : List AddressRange) → [] ≡ r ∷ rs → ⊥
    empty_is_more r rs e = cc
joined_none (r ∷ ranges) rest lo hi e none = absurd (omega (arith, none))

pub joined_last : (before : List AddressRange) (last : AddressRange) (lo hi : ℕ) → before ++ joined (last ∷ []) lo hi ≡ joined (before ++ last ∷ []) lo hi
joined_last [] last lo hi = refl
joined_last (r ∷ []) last lo hi = refl
joined_last (r ∷ s ∷ before) last lo hi = ap (λ (rs : List AddressRange). r ∷ rs) (joined_last (s ∷ before) last lo hi)

pub joined_touching : (before : List AddressRange) (last : AddressRange) (lo hi : ℕ) → last.hi ≡ lo
    → before ++ range last.lo hi ∷ [] ≡ before ++ joined (last ∷ []) lo hi
joined_touching before last lo hi e =
    ap (λ (z : Bool). before ++ cond z (range last.lo hi ∷ []) (last ∷ range lo hi ∷ [])) (sym (eq-eqb last.hi lo e))

pub joined_apart : (before : List AddressRange) (last : AddressRange) (lo hi : ℕ) → (last.hi ≡ lo → ⊥)
    → (before ++ last ∷ []) ++ range lo hi ∷ [] ≡ before ++ joined (last ∷ []) lo hi
joined_apart before last lo hi other =
    append_assoc before (last ∷ []) (range lo hi ∷ [])
    ∙ ap (λ (z : Bool). before ++ cond z (range last.lo hi ∷ []) (last ∷ range lo hi ∷ [])) (sym (ne_eqb last.hi lo other))

-- ---- scopes

none_is_some : (s : Scope) → None ≡ Some s → ⊥
none_is_some s e = cc

some_is_some : (s t : Scope) → Some s ≡ Some t → s ≡ t
some_is_some s t e = cc

-- the first of its place gets the addresses
pub with_code_at : (scopes : List Scope) (p : LexicalScope) (parent : Option ℕ) (lo hi : ℕ) (s : Scope)
    → slice_get scopes (position_or_len (is_same p) (places scopes)) ≡ Some s
    → slice_set scopes (position_or_len (is_same p) (places scopes)) (with_addresses s lo hi) ≡ with_code scopes p parent lo hi
with_code_at [] p parent lo hi s e = absurd (none_is_some s e)
with_code_at (t ∷ scopes) p parent lo hi s e = by (is_same p t.place) e (with_code_at scopes p parent lo hi s)
  where
    n : ℕ
    n = position_or_len (is_same p) (places scopes)

    by : (z : Bool) → slice_get (t ∷ scopes) (cond (not z) (1 + n) 0) ≡ Some s
        → (slice_get scopes n ≡ Some s → slice_set scopes n (with_addresses s lo hi) ≡ with_code scopes p parent lo hi)
        → slice_set (t ∷ scopes) (cond (not z) (1 + n) 0) (with_addresses s lo hi)
        ≡ cond z (with_addresses t lo hi ∷ scopes) (t ∷ with_code scopes p parent lo hi)
    by true at later = ap (λ (u : Scope). with_addresses u lo hi ∷ scopes) (sym (some_is_some t s at))
    by false at later =
        let next : 1 + n ≡ suc n = omega arith in
        ap (λ (k : ℕ). slice_set (t ∷ scopes) k (with_addresses s lo hi)) next
        ∙ ap (λ (ss : List Scope). t ∷ ss) (later (ap (λ (k : ℕ). slice_get (t ∷ scopes) k) (sym next) ∙ at))

-- a new one is appended
pub with_code_new : (scopes : List Scope) (p : LexicalScope) (parent : Option ℕ) (lo hi : ℕ) → length scopes ≤ position_or_len (is_same p) (places scopes)
    → scopes ++ record { place = p; parent = parent; ranges = range lo hi ∷ [] } ∷ [] ≡ with_code scopes p parent lo hi
with_code_new [] p parent lo hi past = refl
with_code_new (t ∷ scopes) p parent lo hi past = by (is_same p t.place) past (with_code_new scopes p parent lo hi)
  where
    new : Scope
    new = record { place = p; parent = parent; ranges = range lo hi ∷ [] }

    by : (z : Bool) → suc (length scopes) ≤ cond (not z) (1 + position_or_len (is_same p) (places scopes)) 0
        → (length scopes ≤ position_or_len (is_same p) (places scopes) → scopes ++ new ∷ [] ≡ with_code scopes p parent lo hi)
        → t ∷ (scopes ++ new ∷ []) ≡ cond z (with_addresses t lo hi ∷ scopes) (t ∷ with_code scopes p parent lo hi)
    by true past later = absurd (omega (arith, past))
    by false past later = ap (λ (ss : List Scope). t ∷ ss) (later (omega (arith, past)))

pub get_within : (scopes : List Scope) (k : ℕ) → k < length scopes → (s : Scope) × (slice_get scopes k ≡ Some s)
get_within [] k below = absurd (omega (arith, below))
get_within (s ∷ scopes) zero below = (s, refl)
get_within (s ∷ scopes) (suc k) below = get_within scopes k (omega (arith, below))

pub get_or_at : (scopes : List Scope) (k : ℕ) (s d : Scope) → slice_get scopes k ≡ Some s → get_or scopes k d ≡ s
get_or_at [] k s d e = absurd (none_is_some s e)
get_or_at (t ∷ scopes) zero s d e = some_is_some t s e
get_or_at (t ∷ scopes) (suc k) s d e = get_or_at scopes k s d e

-- ---- the scopes of a way, outer ones first

module _ (test : LexicalScope → Bool) (old : List Scope) (whole : List LexicalScope) (lo hi : ℕ) where
  pub entering_none : IsEntering test old whole whole lo hi old None
  entering_none = record { done = []; split = sym (append-nil whole); made = refl; index = refl }

  module _ (way left : List LexicalScope) (s : LexicalScope) (now : List Scope) (last : Option ℕ) (e : way ≡ left ++ s ∷ [])
      (is : IsEntering test old whole way lo hi now last) where
    split_now : whole ≡ left ++ (s ∷ is.done)
    split_now = is.split ∙ ap (λ (ss : List LexicalScope). ss ++ is.done) e ∙ append_assoc left (s ∷ []) is.done

    pub entering_kept : test s ≡ false → IsEntering test old whole left lo hi now last
    entering_kept none =
        let same : filter test is.done ≡ filter test (s ∷ is.done) =
        ap (λ (z : Bool). cond z (s ∷ filter test is.done) (filter test is.done)) (sym none) in
        record {
          done = s ∷ is.done;
          split = split_now;
          made = is.made ∙ ap (λ (ss : List LexicalScope). entered old ss lo hi) same;
          index = is.index ∙ ap (index_in now) same;
        }

    pub entering_more : test s ≡ true → (next : List Scope) (k : ℕ) → next ≡ with_code now s last lo hi → k ≡ position_or_len (is_same s) (places now)
        → IsEntering test old whole left lo hi next (Some k)
    entering_more own next k made at =
        let inside = filter test is.done in
        let same : s ∷ inside ≡ filter test (s ∷ is.done) = ap (λ (z : Bool). cond z (s ∷ inside) inside) (sym own) in
        let before = entered old inside lo hi in
        let makes : next ≡ with_code before s (index_in before inside) lo hi =
        made ∙ ap (λ (o : Option ℕ). with_code now s o lo hi) is.index
        ∙ ap (λ (ss : List Scope). with_code ss s (index_in ss inside) lo hi) is.made in
        let place : k ≡ position_or_len (is_same s) (places next) =
        at ∙ sym (place_of_joined is_same same_self (places now) s)
        ∙ ap (position_or_len (is_same s)) (sym (ap places made ∙ places_with now s last lo hi)) in
        record {
          done = s ∷ is.done;
          split = split_now;
          made = makes ∙ ap (λ (ss : List LexicalScope). entered old ss lo hi) same;
          index = ap Some place ∙ ap (index_in next) same;
        }

  pub entering_all : (now : List Scope) (last : Option ℕ) → IsEntering test old whole [] lo hi now last → now ≡ entered old (filter test whole) lo hi
  entering_all now last is = is.made ∙ ap (λ (ss : List LexicalScope). entered old (filter test ss) lo hi) (sym is.split)

-- ---- an instruction in one of the scopes

module _ (scopes next : List Scope) (p : LexicalScope) (parent : Option ℕ) (lo hi : ℕ) where
  pub known_with : (known joined : List LexicalScope) → known ≡ places scopes → joined ≡ with_new is_same known p → next ≡ with_code scopes p parent lo hi
      → joined ≡ places next
  known_with known joined are is made =
      is ∙ ap (λ (qs : List LexicalScope). with_new is_same qs p) are ∙ sym (places_with scopes p parent lo hi) ∙ ap places (sym made)

  pub extended_with : (k : ℕ) → k ≡ position_or_len (is_same p) (places scopes) → k < length scopes
      → next ≡ slice_set scopes k (with_addresses (get_or scopes k no_scope) lo hi) → next ≡ with_code scopes p parent lo hi
  extended_with k number below extends =
      let found = get_within scopes k below in
      extends
      ∙ ap (λ (s : Scope). slice_set scopes k (with_addresses s lo hi)) (get_or_at scopes k found.0 no_scope found.1)
      ∙ ap (λ (n : ℕ). slice_set scopes n (with_addresses found.0 lo hi)) number
      ∙ with_code_at scopes p parent lo hi found.0 (ap (slice_get scopes) (sym number) ∙ found.1)

  pub appended_with : (k : ℕ) → k ≡ position_or_len (is_same p) (places scopes) → length scopes ≤ k → (own : List AddressRange) → own ≡ range lo hi ∷ []
      → next ≡ scopes ++ record { place = p; parent = parent; ranges = own } ∷ [] → next ≡ with_code scopes p parent lo hi
  appended_with k number past own one pushed =
      pushed ∙ ap (λ (rs : List AddressRange). scopes ++ record { place = p; parent = parent; ranges = rs } ∷ []) one
      ∙ with_code_new scopes p parent lo hi (subst (λ (n : ℕ). length scopes ≤ n) number past)
