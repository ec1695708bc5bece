-- The substitutions that are added: each is for a number that nothing has any more, and leads to a number that code has.
use Rattle.std.proofs.Common.{◌≡◌, ◌⊎◌, inl, inr, ℕ, zero, suc, ◌+◌, ◌<◌, List, [], ◌∷◌, ◌++◌, All, Contains, Option, Some, None, Bool}
use Rattle.std.proofs.Common.{true, false, cond, nat_eq, is_some, slice_get, get_or, drop, not, refl, sym, ap, ◌∙◌, subst, arith}
use Rattle.std.specs.List.{list_any}
use Rattle.std.specs.Prelude.{nat_lt, ◌^◌}
use Rattle.std.proofs.lemmas.List.{append_assoc}
use Rattle.std.proofs.lemmas.List.Elements.{All-nil, All-cons, All-head, All-tail, All-append, All-weaker, Contains-append_left}
use Rattle.std.proofs.lemmas.List.Elements.{Contains-append_right, Contains-append_cases}
use Rattle.rv64_instr.specs.Instruction.{Instruction}
use Rattle.mir_func.specs.declared.debug_substitution.DebugSubstitution.{DebugSubstitution}
use Rattle.mir_func.specs.declared.debug_substitution.OperandPair.{OperandPair}
use Rattle.mir_func.specs.declared.position.Origin.{Origin}
use Rattle.mir_func.specs.declared.location.Loc.{Loc}
use Rattle.mir_func.specs.declared.block.Block.{Block}
use Rattle.mir_func.specs.declared.item.Item.{Item}
use Rattle.mir_func.specs.declared.item.ItemKind.{ItemKind}
use Rattle.mir_func.specs.declared.item.ItemKind.TheVariants.{Code, Mark, Phi}
use Rattle.mir_func.specs.Function.{Function}
use Rattle.mir_func.specs.Resolve.{is_pair, entry_of}
use Rattle.mir_func.specs.Sound.{items_of, code_number}
use Rattle.pass_trait.specs.Rule.{item, first_operand}
use Rattle.mir_substitution.proofs.Entries.{entry_of-push, is_pair-true}
use Rattle.pass_salvage.specs.SalvageAction.{or_fresh, has_entry, asks_for, may_stand}
use Rattle.pass_salvage.specs.Salvage.{with_number, numbered_at, entry_for}
use Rattle.pass_salvage.proofs.Chosen.{IsEntered}
use Rattle.pass_edits.proofs.Numbers.{IsUnlike, AreUnlike, all_second, not_unlike, HasCode}
use Rattle.copyprop_block.specs.Copied.{SoFar}
use Rattle.pass_edits.proofs.Others.{flat_unlike, Others, others_of}
use Rattle.pass_edits.proofs.Under.{KindUnder, EntryUnder, no_entry}
use Rattle.pass_edits.proofs.Found.{Split, split_at, last_two, not_is}
use Rattle.copyprop_proof.proofs.Chain.{Ready}

-- what holds of an entry that was added
pub record Stands (fs : List Block) (xs ys : List Item) (gs : List Block) (subs : List DebugSubstitution) (e : DebugSubstitution) : Type 0 where
  pub whole : (e.src.operand ≡ 0) × (e.subreg ≡ 0)
  pub gone : Others e.src.number fs xs ys gs
  pub given : HasCode e.dst.number (items_of fs ++ xs)
  pub end : entry_of subs e.dst ≡ None

-- ---- numbers

unlike_all : (k : ℕ) (fs : List Block) (xs ys : List Item) (gs : List Block) → Others k fs xs ys gs → AreUnlike k (items_of fs ++ xs)
unlike_all k fs xs ys gs h = All-append (λ (x : Item). IsUnlike k x.kind) (items_of fs) xs (flat_unlike k fs h.above) h.up

-- the number of code among items that get another number
given_numbered : (m d n : ℕ) (own : Option ℕ) (fresh : ℕ) (j : Instruction) (o : Origin) (l : Loc) (us xs : List Item) →
    slice_get xs d ≡ Some (item (Code j own) o l) → n ≡ or_fresh fresh own → HasCode m (us ++ xs) → HasCode m (us ++ numbered_at d n xs)
given_numbered m d n own fresh j o l us xs at same h = by_side (Contains-append_cases us xs h.0 h.1) where
  giver : Item
  giver = item (Code j own) o l

  s : Split xs d n giver
  s = split_at xs d n giver at

  new : List Item
  new = s.above ++ item (Code j (Some n)) o l ∷ s.behind

  inside : (y : Item) → code_number y.kind ≡ Some m → Contains new y → HasCode m (us ++ numbered_at d n xs)
  inside y code k = (y, Contains-append_right us (numbered_at d n xs) y (subst (λ (zs : List Item). Contains zs y) (sym s.numbered) k), code)

  first_of : (z : Item) (zs : List Item) (y : Item) → Contains (z ∷ zs) y → (z ≡ y) ⊎ Contains zs y
  first_of z zs y (zero, lt, e) = inl e
  first_of z zs y (suc k, lt, e) = inr (k, omega (arith, lt), e)

  later : (z : Item) (zs : List Item) (y : Item) → Contains zs y → Contains (z ∷ zs) y
  later z zs y (k, lt, e) = (suc k, omega (arith, lt), e)

  by_split : Contains (s.above ++ giver ∷ s.behind) h.0 → HasCode m (us ++ numbered_at d n xs)
  by_split k = elim (Contains-append_cases s.above (giver ∷ s.behind) h.0 k) [
    | inl up ↦ inside h.0 h.2 (Contains-append_left s.above (item (Code j (Some n)) o l ∷ s.behind) h.0 up)
    | inr down ↦ elim (first_of giver s.behind h.0 down) [
      | inl is ↦ own_is (ap (λ (x : Item). code_number x.kind) is ∙ h.2)
      | inr k' ↦ inside h.0 h.2 (Contains-append_right s.above (item (Code j (Some n)) o l ∷ s.behind) h.0 (later (item (Code j (Some n)) o l) s.behind h.0 k'))
    ]
  ] where
    own_is : own ≡ Some m → HasCode m (us ++ numbered_at d n xs)
    own_is is =
        let e : n ≡ m = same ∙ ap (or_fresh fresh) is in
        inside (item (Code j (Some n)) o l) (ap Some e)
        (Contains-append_right s.above (item (Code j (Some n)) o l ∷ s.behind) (item (Code j (Some n)) o l) (0, omega arith, refl))

  by_side : Contains us h.0 ⊎ Contains xs h.0 → HasCode m (us ++ numbered_at d n xs)
  by_side (inl k) = (h.0, Contains-append_left us (numbered_at d n xs) h.0 k, h.2)
  by_side (inr k) = by_split (subst (λ (zs : List Item). Contains zs h.0) s.whole k)

-- items that get a number other than k
unlike_numbered : (k d n : ℕ) (xs : List Item) → (k ≡ n → ⊥) → AreUnlike k xs → AreUnlike k (numbered_at d n xs)
unlike_numbered k d n [] ne h = h
unlike_numbered k zero n (x ∷ xs) ne h =
    All-cons (λ (y : Item). IsUnlike k y.kind) (record x { kind = with_number n x.kind }) xs
    (by_kind x.kind (All-head (λ (y : Item). IsUnlike k y.kind) x xs h)) (All-tail (λ (y : Item). IsUnlike k y.kind) x xs h) where
      by_kind : (z : ItemKind) → IsUnlike k z → IsUnlike k (with_number n z)
      by_kind (Code i m) u = λ j e same. (let is : n ≡ j = cc in ne (same ∙ sym is))
      by_kind (Mark v m) u = u
      by_kind (Phi p m) u = u
unlike_numbered k (suc d) n (x ∷ xs) ne h =
    All-cons (λ (y : Item). IsUnlike k y.kind) x (numbered_at d n xs) (All-head (λ (y : Item). IsUnlike k y.kind) x xs h)
    (unlike_numbered k d n xs ne (All-tail (λ (y : Item). IsUnlike k y.kind) x xs h))

-- ---- one item

module _ (f : Function) (above : List Block) (id source_end : ℕ) (behind : List Block) (more : List DebugSubstitution) where
  -- all that were added stand
  abbrev pub AllStand : SoFar → List Item → Type 0
  AllStand a rest = All (Stands above a.done rest behind a.subs) more

  abbrev N : ℕ → Item → Type 0
  N k x = IsUnlike k x.kind

  -- an item stays
  pub stand_stays : (a : SoFar) (x : Item) (rest : List Item) → AllStand a (x ∷ rest) → All (Stands above (a.done ++ x ∷ []) rest behind a.subs) more
  stand_stays a x rest h =
      All-weaker (Stands above a.done (x ∷ rest) behind a.subs) (Stands above (a.done ++ x ∷ []) rest behind a.subs)
      (λ e w. record {
        whole = w.whole;
        gone = record {
          above = w.gone.above;
          up = All-append (N e.src.number) a.done (x ∷ []) w.gone.up
              (All-cons (N e.src.number) x [] (All-head (N e.src.number) x rest w.gone.down) (All-nil (N e.src.number)));
          down = All-tail (N e.src.number) x rest w.gone.down;
          behind = w.gone.behind;
        };
        given = (
          w.given.0,
          subst (λ (zs : List Item). Contains zs w.given.0) (append_assoc (items_of above) a.done (x ∷ []))
              (Contains-append_left (items_of above ++ a.done) (x ∷ []) w.given.0 w.given.1),
          w.given.2,
        );
        end = w.end;
      }) more h

  -- one goes, and perhaps items are put that have none of the numbers that are gone
  pub stand_goes : (a : SoFar) (x : Item) (rest up : List Item) → AllStand a (x ∷ rest) → ((k : ℕ) → IsUnlike k x.kind → AreUnlike k up) →
      All (Stands above (a.done ++ up) rest behind a.subs) more
  stand_goes a x rest up h put =
      All-weaker (Stands above a.done (x ∷ rest) behind a.subs) (Stands above (a.done ++ up) rest behind a.subs)
      (λ e w. record {
        whole = w.whole;
        gone = record {
          above = w.gone.above;
          up = All-append (N e.src.number) a.done up w.gone.up (put e.src.number (All-head (N e.src.number) x rest w.gone.down));
          down = All-tail (N e.src.number) x rest w.gone.down;
          behind = w.gone.behind;
        };
        given = (
          w.given.0,
          subst (λ (zs : List Item). Contains zs w.given.0) (append_assoc (items_of above) a.done up)
              (Contains-append_left (items_of above ++ a.done) up w.given.0 w.given.1),
          w.given.2,
        );
        end = w.end;
      }) more h

-- an entry is added
module _ (f : Function) (above : List Block) (id source_end : ℕ) (behind : List Block) (more : List DebugSubstitution) (a : SoFar) (i : Instruction) (k s : ℕ)
    (o : Origin)
    (l : Loc) (rest : List Item) (ready : Ready f above id source_end behind a (item (Code i (Some k)) o l ∷ rest))
    (under : All (EntryUnder a.fresh) more) (d p n : ℕ) (e : IsEntered [] a.subs a.fresh k s a.done d p n) where
  abbrev copy : Item
  copy = item (Code i (Some k)) o l

  abbrev giver : Item
  giver = item (Code e.i e.own) e.origin e.loc

  abbrev up : List Item
  up = numbered_at d n a.done

  abbrev subs' : List DebugSubstitution
  subs' = a.subs ++ entry_for k n p ∷ []

  far : Others k above a.done rest behind
  far = others_of f above id source_end behind k a.done copy rest ready.sound.numbers refl

  none_of : (x : Option DebugSubstitution) → is_some x ≡ false → x ≡ None
  none_of None h = refl
  none_of (Some y) h = cc

  source_none : entry_of a.subs (first_operand k) ≡ None
  source_none = none_of (entry_of a.subs (first_operand k)) e.none

  split : Split a.done d n giver
  split = split_at a.done d n giver e.stands

  -- the number isn't the copy's
  apart : k ≡ n → ⊥
  apart same = by_own e.own refl e.number where
    by_own : (z : Option ℕ) → e.own ≡ z → n ≡ or_fresh a.fresh z → ⊥
    by_own None is h =
        let lt : k < a.fresh = All-head (λ (x : Item). KindUnder a.fresh x.kind) copy rest ready.in_rest in
        omega (arith, same, h, lt)
    by_own (Some m) is h =
        All-head (λ (x : Item). IsUnlike k x.kind) giver split.behind
        (all_second (λ (x : Item). IsUnlike k x.kind) split.above (giver ∷ split.behind) (subst (AreUnlike k) split.whole far.up)) m is (same ∙ h)

  -- a number that is gone isn't the one that code gets
  other : (x : DebugSubstitution) → Stands above a.done (copy ∷ rest) behind a.subs x → x.src.number < a.fresh → x.src.number ≡ n → ⊥
  other x w lt same = by_own e.own refl e.number where
    by_own : (z : Option ℕ) → e.own ≡ z → n ≡ or_fresh a.fresh z → ⊥
    by_own None is h = omega (arith, same, h, lt)
    by_own (Some m) is h =
        All-head (λ (y : Item). IsUnlike x.src.number y.kind) giver split.behind
        (all_second (λ (y : Item). IsUnlike x.src.number y.kind) split.above (giver ∷ split.behind) (subst (AreUnlike x.src.number) split.whole w.gone.up)) m is
        (same ∙ h)

  push_none : (q : OperandPair) → entry_of a.subs q ≡ None → (first_operand k ≡ q → ⊥) → entry_of subs' q ≡ None
  push_none q none ne =
      entry_of-push a.subs (entry_for k n p) q source_none ∙ by_test (is_pair (first_operand k) q) refl where
        by_test : (z : Bool) → is_pair (first_operand k) q ≡ z → cond z (Some (entry_for k n p)) (entry_of a.subs q) ≡ None
        by_test true is = absurd (ne (is_pair-true (first_operand k) q is))
        by_test false is = none

  old_stand : (x : DebugSubstitution) → x.src.number < a.fresh → Stands above a.done (copy ∷ rest) behind a.subs x → Stands above up rest behind subs' x
  old_stand x lt w = record {
    whole = w.whole;
    gone = record {
      above = w.gone.above;
      up = unlike_numbered x.src.number d n a.done (other x w lt) w.gone.up;
      down = All-tail (λ (y : Item). IsUnlike x.src.number y.kind) copy rest w.gone.down;
      behind = w.gone.behind;
    };
    given = given_numbered x.dst.number d n e.own a.fresh e.i e.origin e.loc (items_of above) a.done e.stands e.number w.given;
    end = push_none x.dst w.end
        (λ same. not_unlike k (items_of above ++ a.done) (unlike_all k above a.done rest behind far)
        (subst (λ (m : ℕ). HasCode m (items_of above ++ a.done)) (sym (ap (λ (q : OperandPair). q.number) same)) w.given));
  }

  target_none : entry_of a.subs (record { number = n; operand = p }) ≡ None
  target_none = by_own e.own refl e.number e.may where
    by_own : (z : Option ℕ) → e.own ≡ z → n ≡ or_fresh a.fresh z → may_stand [] a.subs k d e.own p (drop (suc d) a.done) ≡ true →
        entry_of a.subs (record { number = n; operand = p }) ≡ None
    by_own None is h may = no_entry a.fresh n p (omega (arith, h)) a.subs ready.in_entries
    by_own (Some m) is h may =
        let tests = last_two (nat_lt p (2 ^ 32)) (not (list_any (nat_eq d) [])) (not (has_entry a.subs e.own p))
        (not (list_any (λ x. asks_for a.subs k x.kind) (drop (suc d) a.done))) may in
        ap (λ (w : ℕ). entry_of a.subs (record { number = w; operand = p })) h ∙
        none_of (entry_of a.subs (record { number = m; operand = p }))
        (ap (λ (z : Option ℕ). has_entry a.subs z p) (sym is) ∙ not_is (has_entry a.subs e.own p) tests.0)

  new_stands : Stands above up rest behind subs' (entry_for k n p)
  new_stands = record {
    whole = (refl, refl);
    gone = record { above = far.above; up = unlike_numbered k d n a.done apart far.up; down = far.down; behind = far.behind };
    given = (
      item (Code e.i (Some n)) e.origin e.loc,
      Contains-append_right (items_of above) up (item (Code e.i (Some n)) e.origin e.loc)
          (subst (λ (zs : List Item). Contains zs (item (Code e.i (Some n)) e.origin e.loc)) (sym split.numbered)
          (Contains-append_right split.above (item (Code e.i (Some n)) e.origin e.loc ∷ split.behind) (item (Code e.i (Some n)) e.origin e.loc)
          (0, omega arith, refl))),
      refl,
    );
    end = push_none (record { number = n; operand = p }) target_none (λ same. apart (ap (λ (q : OperandPair). q.number) same));
  }

  pub stand_added : All (Stands above a.done (copy ∷ rest) behind a.subs) more → All (Stands above up rest behind subs') (more ++ entry_for k n p ∷ [])
  stand_added h =
      All-append (Stands above up rest behind subs') more (entry_for k n p ∷ [])
      (λ j x lt. old_stand (get_or more j x) ((under j x lt).0) (h j x lt))
      (All-cons (Stands above up rest behind subs') (entry_for k n p) [] new_stands (All-nil (Stands above up rest behind subs')))
