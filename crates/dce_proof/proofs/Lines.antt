-- What the lines of a ledger say: what stands for each item once copies that go have lost their numbers.
use Rattle.std.proofs.Common.{◌≡◌, ◌⊎◌, ◌↔◌, inl, inr, Contains, ℕ, zero, suc, ◌<◌, ◌≤◌, List, [], ◌∷◌, ◌++◌, length, take, drop, get_or}
use Rattle.std.proofs.Common.{Option, Some, None, Bool, true, false, cond, not, ◌&&◌, nat_eq, is_some, slice_get}
use Rattle.std.proofs.Common.{append-nil, refl, sym, ap, ◌∙◌, subst, arith}
use Rattle.std.specs.List.{flat_map, list_any}
use Rattle.std.specs.Prelude.{nat_lt, ◌^◌}
use Rattle.std.proofs.lemmas.Bool.{cases_eq}
use Rattle.std.proofs.lemmas.Grind.{flat_map-append}
use Rattle.std.proofs.lemmas.List.{append_assoc, length-append, length-take-le}
use Rattle.std.proofs.lemmas.Option.{slice_get_within}
use Rattle.std.proofs.lemmas.List.Elements.{Contains-append_left, Contains-append_right, Contains-append_cases}
use Rattle.rv64_instr.specs.Instruction.{Instruction}
use Rattle.mir_func.specs.declared.debug_substitution.DebugSubstitution.{DebugSubstitution}
use Rattle.mir_func.specs.declared.position.Origin.{Origin}
use Rattle.mir_func.specs.declared.location.Loc.{Loc}
use Rattle.mir_func.specs.declared.item.Item.{Item}
use Rattle.mir_func.specs.declared.item.ItemKind.{ItemKind}
use Rattle.mir_func.specs.declared.item.ItemKind.TheVariants.{Code, Mark, Phi}
use Rattle.mir_func.specs.Resolve.{entry_of}
use Rattle.pass_trait.specs.Rule.{item, first_operand, number_lost}
use Rattle.pass_trait.specs.declared.loss.Reason.TheVariants.{WrongPlace}
use Rattle.pass_trait.specs.declared.loss.Loss.{Loss}
use Rattle.pass_salvage.specs.declared.salvage_action.SalvageAction.{SalvageAction}
use Rattle.pass_salvage.specs.declared.salvage_action.SalvageAction.TheVariants.{HasEntry, GetsEntry, GetsPhi}
use Rattle.pass_salvage.specs.SalvageAction.{has_entry, or_fresh, asks_for, may_stand, action_by}
use Rattle.pass_salvage.specs.SalvageAction.{action_of_kind, action_at, action_from, salvage_action, first_definition, last_definition}
use Rattle.pass_salvage.specs.Salvage.{with_number, numbered_at, entry_for, entries_for, above_after}
use Rattle.pass_salvage.proofs.Chosen.{IsEntered, entered}
use Rattle.pass_salvage.proofs.Going.{removed_at}
use Rattle.dce_round.proofs.pass_edits.Found.{not_is}
use Rattle.dce_round.proofs.pass_edits.Entered.{entered_more, entry_added, none_there}
use Rattle.dce_round.specs.dce_rule.Dead.{Places, is_dead, needed_at}
use Rattle.dce_round.specs.dce_analysis.Judge.{verdicts}
use Rattle.dce_salvage.specs.declared.salvage_numbers.Copied.{Copied}
use Rattle.dce_salvage.specs.SalvageNumbers.{without_number, numbered_copy, salvage_phi, added_by_salvage, lost_if_own, lost_by_salvage, salvaged_from}
use Rattle.dce_salvage.specs.SalvageNumbers.{SoFar, salvage_by, salvage_copy, copy_in, salvage_at, salvage_down}
use Rattle.pass_salvage.specs.SalvageAction.{going_from}
use Rattle.pass_salvage.proofs.Placed.{numbered_length, above_length}
use Rattle.dce_round.proofs.dce_salvage_proof.Copy.{split_at}
use Rattle.dce_proof.specs.SalvageLedger.{Line, line_by, line_of, line_of_copy, lines_of, lines_down}
use Rattle.rv64_instr.specs.Row.{row_of}
use Rattle.rv64_instr.specs.LocationEffects.{is_call}

-- the copy's pair has an entry
abbrev pub IsEnteredIn : List DebugSubstitution → ℕ → Type 0
IsEnteredIn subs k = (e : DebugSubstitution) × (entry_of subs (first_operand k) ≡ Some e)

-- the item without its number
abbrev pub bare_of : Item → Item
bare_of x = record x { kind = without_number x.kind }

-- what stands for an item, which goes or stays
pub data LineIs (subs : List DebugSubstitution) (goes : Bool) : Item → Line → Type 0 where
  as_it_was : {x : Item} → (goes ≡ true → numbered_copy x.kind ≡ None) → LineIs subs goes x (line_of x)
  numbered : {i : Instruction} {k : ℕ} {o : Origin} {l : Loc} → goes ≡ false →
      LineIs subs goes (item (Code i None) o l) (record { now = item (Code i (Some k)) o l ∷ []; phi = None })
  by_entry : {x : Item} (c : Copied) → goes ≡ true → numbered_copy x.kind ≡ Some c → IsEnteredIn subs c.number →
      LineIs subs goes x (record { now = bare_of x ∷ []; phi = None })
  by_phi : {x : Item} (c : Copied) → goes ≡ true → numbered_copy x.kind ≡ Some c →
      LineIs subs goes x (record { now = salvage_phi c x.origin ∷ bare_of x ∷ []; phi = Some c.source })

-- the lines of items, at the end of which these places are needed
pub data LinesAre (subs : List DebugSubstitution) (needed : Places) : List Item → List Line → Type 0 where
  no_lines : LinesAre subs needed [] []
  next_line : {x : Item} {l : Line} {xs : List Item} {ls : List Line} → LineIs subs (is_dead x.kind (needed_at xs needed)) x l →
      LinesAre subs needed xs ls → LinesAre subs needed (x ∷ xs) (l ∷ ls)

-- all that stands for items
abbrev pub all_now : List Line → List Item
all_now ls = flat_map (λ (l : Line). l.now) ls

-- the line of an item, by its index
abbrev pub LineAt : (subs : List DebugSubstitution) (dead : List Bool) (ls : List Line) (j : ℕ) (x : Item) → Type 0
LineAt subs dead ls j x = (l : Line) × (slice_get ls j ≡ Some l) × LineIs subs (get_or dead j false) x l

pub lines_from : (subs : List DebugSubstitution) (needed : Places) (xs : List Item) (ls : List Line) → length ls ≡ length xs →
    ((j : ℕ) (x : Item) → slice_get xs j ≡ Some x → LineAt subs (verdicts xs needed) ls j x) → LinesAre subs needed xs ls
lines_from subs needed [] [] e h = no_lines
lines_from subs needed [] (l ∷ ls) e h = absurd (omega (arith, e))
lines_from subs needed (x ∷ xs) [] e h = absurd (omega (arith, e))
lines_from subs needed (x ∷ xs) (l ∷ ls) e h =
    let w = h 0 x refl in
    let s : Some l ≡ Some w.0 = w.1 in
    let same : l ≡ w.0 = cc in
    next_line (subst (λ (m : Line). LineIs subs (is_dead x.kind (needed_at xs needed)) x m) (sym same) w.2)
    (lines_from subs needed xs ls (omega (arith, e)) (λ j y at. h (suc j) y at))

-- ---- entries are only added

pub line_more : (subs more : List DebugSubstitution) (goes : Bool) (x : Item) (l : Line) → LineIs subs goes x l → LineIs (subs ++ more) goes x l
line_more subs more goes x l (as_it_was h) = as_it_was h
line_more subs more goes x l (numbered stays) = numbered stays
line_more subs more goes x l (by_entry c dead is e) = by_entry c dead is (e.0, entered_more subs more (first_operand c.number) e.0 e.1)
line_more subs more goes x l (by_phi c dead is) = by_phi c dead is

pub lines_more : (subs more : List DebugSubstitution) (needed : Places) (xs : List Item) (ls : List Line) → LinesAre subs needed xs ls →
    LinesAre (subs ++ more) needed xs ls
lines_more subs more needed xs ls no_lines = no_lines
lines_more subs more needed (x ∷ xs) (l ∷ ls) (next_line h rest) =
    next_line (line_more subs more (is_dead x.kind (needed_at xs needed)) x l h) (lines_more subs more needed xs ls rest)

-- ---- the indices of what goes

second_of : (a b c d : Bool) → (a && b && c && d) ≡ true → b ≡ true
second_of true true c d h = refl
second_of true false c d h = cc
second_of false b c d h = cc

-- code that stands for a copy doesn't go
pub giver_stays : (dead : List Bool) (subs : List DebugSubstitution) (fresh k s : ℕ) (above : List Item) (d o n : ℕ) →
    IsEntered (going_from 0 dead) subs fresh k s above d o n → get_or dead d false ≡ false
giver_stays dead subs fresh k s above d o n e =
    sym (removed_at dead 0 d d (omega arith)) ∙ not_is (list_any (nat_eq d) (going_from 0 dead))
    (second_of (nat_lt o (2 ^ 32)) (not (list_any (nat_eq d) (going_from 0 dead))) (not (has_entry subs e.own o))
    (not (list_any (λ x. asks_for subs k x.kind) (drop (suc d) above))) e.may)

-- ---- lists by their indices

pub number_other : (d n : ℕ) (ys : List Item) (j : ℕ) → (j ≡ d → ⊥) → slice_get (numbered_at d n ys) j ≡ slice_get ys j
number_other d n [] j ne = refl
number_other zero n (y ∷ ys) zero ne = absurd (ne refl)
number_other zero n (y ∷ ys) (suc j) ne = refl
number_other (suc d) n (y ∷ ys) zero ne = refl
number_other (suc d) n (y ∷ ys) (suc j) ne = number_other d n ys j (λ e. ne (ap suc e))

pub number_same : (d n : ℕ) (ys : List Item) (y : Item) → slice_get ys d ≡ Some y →
    slice_get (numbered_at d n ys) d ≡ Some (record y { kind = with_number n y.kind })
number_same d n [] y e = cc
number_same zero n (z ∷ ys) y e = let same : z ≡ y = cc in ap (λ (w : Item). Some (record w { kind = with_number n w.kind })) same
number_same (suc d) n (z ∷ ys) y e = number_same d n ys y e

pub get_taken : (ys : List Item) (n j : ℕ) → j < n → slice_get (take n ys) j ≡ slice_get ys j
get_taken ys zero j lt = absurd (omega (arith, lt))
get_taken [] (suc n) j lt = refl
get_taken (y ∷ ys) (suc n) zero lt = refl
get_taken (y ∷ ys) (suc n) (suc j) lt = get_taken ys n j (omega (arith, lt))

pub get_left : {A : Type 0} (ys zs : List A) (j : ℕ) → j < length ys → slice_get (ys ++ zs) j ≡ slice_get ys j
get_left [] zs j lt = absurd (omega (arith, lt))
get_left (y ∷ ys) zs zero lt = refl
get_left (y ∷ ys) zs (suc j) lt = get_left ys zs j (omega (arith, lt))

pub get_last : {A : Type 0} (ys : List A) (z : A) (n : ℕ) → length ys ≡ n → slice_get (ys ++ z ∷ []) n ≡ Some z
get_last [] z zero e = refl
get_last [] z (suc n) e = absurd (omega (arith, e))
get_last (y ∷ ys) z zero e = absurd (omega (arith, e))
get_last (y ∷ ys) z (suc n) e = get_last ys z n (omega (arith, e))

pub get_there : {A : Type 0} (ys : List A) (n : ℕ) → n < length ys → (y : A) × (slice_get ys n ≡ Some y)
get_there [] n lt = absurd (omega (arith, lt))
get_there (y ∷ ys) zero lt = (y, refl)
get_there (y ∷ ys) (suc n) lt = get_there ys n (omega (arith, lt))

drop_zero : {A : Type 0} (xs : List A) → drop 0 xs ≡ xs
drop_zero [] = refl
drop_zero (x ∷ xs) = refl

drop_past : (xs ys : List Item) (n : ℕ) → length xs ≡ n → drop n (xs ++ ys) ≡ ys
drop_past [] ys zero e = drop_zero ys
drop_past [] ys (suc n) e = absurd (omega (arith, e))
drop_past (x ∷ xs) ys zero e = absurd (omega (arith, e))
drop_past (x ∷ xs) ys (suc n) e = drop_past xs ys n (omega (arith, e))

-- ---- an item is as it was, or stays and got a number

abbrev pub IsGiven : Item → Item → Type 0
IsGiven x y = (i : Instruction) × (k : ℕ) × (x.kind ≡ Code i None) × (y ≡ item (Code i (Some k)) x.origin x.loc)

abbrev pub Now : (goes : Bool) → Item → Item → Type 0
Now goes x y = (y ≡ x) ⊎ ((goes ≡ false) × IsGiven x y)

-- no other way is that it has an entry
has_some : (x : Option DebugSubstitution) → is_some x ≡ true → (e : DebugSubstitution) × (x ≡ Some e)
has_some None h = cc
has_some (Some e) h = (e, refl)

module _ (removed : List ℕ) (subs : List DebugSubstitution) (fresh k s : ℕ) (done : List Item) where
  no_operand : (d : ℕ) (n : Option ℕ) (p : Option ℕ) (behind : List Item) → action_by removed subs fresh k d n p behind ≡ HasEntry → ⊥
  no_operand d n None behind e = cc
  no_operand d n (Some o) behind e = by_test (may_stand removed subs k d n o behind) e where
    by_test : (z : Bool) → cond z (GetsEntry d o (or_fresh fresh n)) GetsPhi ≡ HasEntry → ⊥
    by_test true e = cc
    by_test false e = cc

  no_kind : (d : ℕ) (kind : ItemKind) → action_of_kind removed subs fresh k s d done kind ≡ HasEntry → ⊥
  no_kind d (Code i n) e = no_operand d n (first_definition (is_call (row_of i)) s i.operands) (drop (suc d) done) e
  no_kind d (Mark v m) e = cc
  no_kind d (Phi p m) e = cc

  no_item : (d : ℕ) (x : Option Item) → action_at removed subs fresh k s d done x ≡ HasEntry → ⊥
  no_item d None e = cc
  no_item d (Some x) e = no_kind d x.kind e

  no_from : (o : Option ℕ) → action_from removed subs fresh k s done o ≡ HasEntry → ⊥
  no_from None e = cc
  no_from (Some d) e = no_item d (slice_get done d) e

  entry_there : salvage_action removed subs fresh k s done ≡ HasEntry → IsEnteredIn subs k
  entry_there is = by_test (has_entry subs (Some k) 0) refl is where
    by_test : (z : Bool) → has_entry subs (Some k) 0 ≡ z → cond z HasEntry (action_from removed subs fresh k s done (last_definition s done)) ≡ HasEntry →
        IsEnteredIn subs k
    by_test true h e = has_some (entry_of subs (first_operand k)) h
    by_test false h e = absurd (no_from (last_definition s done) e)

-- what is lost of a copy that sets its own source
abbrev pub Own : Item → Line → Loss → Type 0
Own x l loss = (c : Copied) × (numbered_copy x.kind ≡ Some c) × (c.own ≡ true) × (l.phi ≡ Some c.source) × (loss ≡ number_lost c.number WrongPlace)

-- ---- one item, and those above it

module _ (xs : List Item) (dead : List Bool) where
  -- the items before an index are as they were, or got numbers
  abbrev pub AreNow : (items : List Item) (n : ℕ) → Type 0
  AreNow items n = (j : ℕ) (x : Item) → j < n → slice_get xs j ≡ Some x → (y : Item) × (slice_get items j ≡ Some y) × Now (get_or dead j false) x y

  -- code gets the number that stands for a copy
  now_numbered : (j m : ℕ) (x y : Item) (i : Instruction) (own : Option ℕ) (o : Origin) (l : Loc) (fresh : ℕ) → get_or dead j false ≡ false →
      Now (get_or dead j false) x y → y ≡ item (Code i own) o l → m ≡ or_fresh fresh own → Now (get_or dead j false) x (item (Code i (Some m)) o l)
  now_numbered j m x y i None o l fresh stays (inl e) is number =
      let same : item (Code i None) o l ≡ x = sym is ∙ e in
      inr (stays, (i, m, sym (ap (λ (z : Item). z.kind) same), (λ t. item (Code i (Some m)) (same t).origin (same t).loc)))
  now_numbered j m x y i None o l fresh stays (inr (e, (i', k, kind, now))) is number =
      let both : Code i None ≡ Code i' (Some k) = ap (λ (z : Item). z.kind) (sym is ∙ now) in
      cc
  now_numbered j m x y i (Some n) o l fresh stays h is number =
      subst (λ (z : Item). Now (get_or dead j false) x z) (is ∙ (λ t. item (Code i (Some (sym number t))) o l)) h

  now_above : (items : List Item) (subs : List DebugSubstitution) (fresh k s n : ℕ) (rest : List Item) → n ≤ length items → AreNow items n →
      (w : SalvageAction) →
      salvage_action (going_from 0 dead) subs fresh k s (take n items) ≡ w → AreNow (above_after w (take n items) ++ rest) n
  now_above items subs fresh k s n rest le h w is j x lt at = by_way w is where
    up : List Item
    up = take n items

    long : length (take n items) ≡ n
    long = length-take-le n items le

    u : (y : Item) × (slice_get items j ≡ Some y) × Now (get_or dead j false) x y
    u = h j x lt at

    left : (ys : List Item) → length ys ≡ length (take n items) → slice_get (ys ++ rest) j ≡ slice_get ys j
    left ys e = let a = long in get_left ys rest j (omega (arith, e, a, lt))

    same_up : slice_get (take n items) j ≡ Some (h j x lt at).0
    same_up = get_taken items n j lt ∙ (h j x lt at).1

    by_way : (w : SalvageAction) → salvage_action (going_from 0 dead) subs fresh k s (take n items) ≡ w →
        (y : Item) × (slice_get (above_after w (take n items) ++ rest) j ≡ Some y) × Now (get_or dead j false) x y
    by_way HasEntry is = (u.0, left (take n items) refl ∙ same_up, u.2)
    by_way GetsPhi is = (u.0, left (take n items) refl ∙ same_up, u.2)
    by_way (GetsEntry d p m) is =
        let e = entered (going_from 0 dead) subs fresh k s (take n items) d p m is in
        elim (cases_eq j d) [
          | inl same ↦ (
              let at_j : slice_get (take n items) j ≡ Some (item (Code e.i e.own) e.origin e.loc) = ap (slice_get (take n items)) same ∙ e.stands in
              let both : Some u.0 ≡ Some (item (Code e.i e.own) e.origin e.loc) = sym same_up ∙ at_j in
              let y_is : u.0 ≡ item (Code e.i e.own) e.origin e.loc = cc in
              let stays : get_or dead j false ≡ false = ap (λ (z : ℕ). get_or dead z false) same ∙ giver_stays dead subs fresh k s (take n items) d p m e in (
                item (Code e.i (Some m)) e.origin e.loc,
                left (numbered_at d m (take n items)) (numbered_length d m (take n items)) ∙ ap (slice_get (numbered_at d m (take n items))) same ∙
                    number_same d m (take n items) (item (Code e.i e.own) e.origin e.loc) e.stands,
                now_numbered j m x u.0 e.i e.own e.origin e.loc fresh stays u.2 y_is e.number,
              )
              )
          | inr ne ↦ (
            u.0,
            left (numbered_at d m (take n items)) (numbered_length d m (take n items)) ∙ number_other d m (take n items) j ne ∙ same_up,
            u.2,
          )
        ]

  -- what is known of one item when it is done
  pub record OneLine (n : ℕ) (goes : Bool) (a b : SoFar) (x : Item) : Type 0 where
    pub line : Line
    pub is : lines_of (going_from 0 dead) n goes a (slice_get a.items n) ≡ line ∷ []
    pub fits : LineIs b.subs goes x line
    pub now : line.now ++ drop (suc n) a.items ≡ drop n b.items
    pub more : List DebugSubstitution
    pub grown : b.subs ≡ a.subs ++ more
    pub above : AreNow a.items (suc n) → AreNow b.items n
    pub lost : (loss : Loss) → Contains b.lost loss ↔ (Contains a.lost loss ⊎ Own x line loss)

  one_stays : (n : ℕ) (a : SoFar) (x y : Item) → slice_get a.items n ≡ Some y → Now false x y → OneLine n false a a x
  one_stays n a x y at h = record {
    line = line_of y;
    is = ap (λ (o : Option Item). lines_of (going_from 0 dead) n false a o) at;
    fits = by_now h;
    now = sym (split_at a.items n y at).behind;
    more = [];
    grown = sym (append-nil a.subs);
    above = λ all j z lt there. all j z (omega (arith, lt)) there;
    lost = λ loss. (λ k. inl k, λ w. elim w [ inl k ↦ k | inr own ↦ (let bad = own.3 in cc) ]);
  } where
    by_now : Now false x y → LineIs a.subs false x (line_of y)
    by_now (inl e) = subst (λ (z : Item). LineIs a.subs false x (line_of z)) (sym e) (as_it_was (λ t. cc))
    by_now (inr (e, (i, k, kind, now))) =
        let x_is : x ≡ item (Code i None) x.origin x.loc = (λ t. item (kind t) x.origin x.loc) in
        subst (λ (z : Item). LineIs a.subs false x (line_of z)) (sym now)
        (subst (λ (z : Item). LineIs a.subs false z (line_of (item (Code i (Some k)) x.origin x.loc))) (sym x_is) (numbered refl))

  own_lost : (own : Bool) (k : ℕ) (loss : Loss) → Contains (lost_if_own own k) loss → (own ≡ true) × (loss ≡ number_lost k WrongPlace)
  own_lost true k loss (zero, lt, e) = (refl, sym e)
  own_lost true k loss (suc j, lt, e) = absurd (omega (arith, lt))
  own_lost false k loss (j, lt, e) = absurd (omega (arith, lt))

  lost_own : (own : Bool) (k : ℕ) (loss : Loss) → own ≡ true → loss ≡ number_lost k WrongPlace → Contains (lost_if_own own k) loss
  lost_own true k loss t e = (0, omega arith, sym e)
  lost_own false k loss t e = cc

  one_copy : (n : ℕ) (a : SoFar) (x : Item) (c : Copied) → slice_get a.items n ≡ Some x → numbered_copy x.kind ≡ Some c → (w : SalvageAction) →
      salvage_action (going_from 0 dead) a.subs a.fresh c.number c.source (take n a.items) ≡ w → OneLine n true a (salvage_by n c a w) x
  one_copy n a x c at is w way_is = record {
    line = line_by w c x;
    is = ap (λ (o : Option Item). lines_of (going_from 0 dead) n true a o) at ∙
        ap (λ (o : Option Copied). line_of_copy (going_from 0 dead) n a x o ∷ []) is ∙ ap (λ (v : SalvageAction). line_by v c x ∷ []) way_is;
    fits = by_way w way_is;
    now = append_assoc (added_by_salvage w c x.origin) (bare_of x ∷ []) (drop (suc n) a.items) ∙
        ap (λ (ys : List Item). salvaged_from w c ys) (sym (split_at a.items n x at).behind) ∙
        sym (drop_past (above_after w (take n a.items)) (salvaged_from w c (drop n a.items)) n
        (above_length w (take n a.items) ∙ length-take-le n a.items (omega (arith, inside))));
    more = entries_for w c.number;
    grown = refl;
    above = λ all. now_above a.items a.subs a.fresh c.number c.source n (salvaged_from w c (drop n a.items)) (omega (arith, inside))
        (λ j z lt there. all j z (omega (arith, lt)) there) w way_is;
    lost = λ loss. (lost_there w loss, there_lost w loss);
  } where
    inside : n < length a.items
    inside = slice_get_within a.items n x at

    by_way : (w : SalvageAction) → salvage_action (going_from 0 dead) a.subs a.fresh c.number c.source (take n a.items) ≡ w →
        LineIs (a.subs ++ entries_for w c.number) true x (line_by w c x)
    by_way HasEntry e =
        let k = entry_there (going_from 0 dead) a.subs a.fresh c.number c.source (take n a.items) e in
        by_entry c refl is (k.0, entered_more a.subs [] (first_operand c.number) k.0 k.1)
    by_way (GetsEntry d p m) e =
        let k = entered (going_from 0 dead) a.subs a.fresh c.number c.source (take n a.items) d p m e in
        by_entry c refl is (entry_for c.number m p, entry_added a.subs c.number m p (none_there (entry_of a.subs (first_operand c.number)) k.none))
    by_way GetsPhi e = by_phi c refl is

    lost_there : (w : SalvageAction) (loss : Loss) → Contains (a.lost ++ lost_by_salvage w c) loss → Contains a.lost loss ⊎ Own x (line_by w c x) loss
    lost_there w loss k = elim (Contains-append_cases a.lost (lost_by_salvage w c) loss k) [ inl old ↦ inl old | inr new ↦ inr (by_new w new) ] where
      by_new : (w : SalvageAction) → Contains (lost_by_salvage w c) loss → Own x (line_by w c x) loss
      by_new HasEntry (j, lt, e) = absurd (omega (arith, lt))
      by_new (GetsEntry d p m) (j, lt, e) = absurd (omega (arith, lt))
      by_new GetsPhi h = let o = own_lost c.own c.number loss h in (c, is, o.0, refl, o.1)

    there_lost : (w : SalvageAction) (loss : Loss) → Contains a.lost loss ⊎ Own x (line_by w c x) loss → Contains (a.lost ++ lost_by_salvage w c) loss
    there_lost w loss (inl k) = Contains-append_left a.lost (lost_by_salvage w c) loss k
    there_lost w loss (inr h) = Contains-append_right a.lost (lost_by_salvage w c) loss (by_way_lost w h) where
      by_way_lost : (w : SalvageAction) → Own x (line_by w c x) loss → Contains (lost_by_salvage w c) loss
      by_way_lost HasEntry o = let bad = o.3 in cc
      by_way_lost (GetsEntry d p m) o = let bad = o.3 in cc
      by_way_lost GetsPhi (c', is', own, phi, e) =
          let same : Some c' ≡ Some c = sym is' ∙ is in
          let one : c' ≡ c = cc in
          lost_own c.own c.number loss (ap (λ (z : Copied). z.own) (sym one) ∙ own) (e ∙ (λ t. number_lost (one t).number WrongPlace))

  one_goes : (n : ℕ) (a : SoFar) (x : Item) → slice_get a.items n ≡ Some x → OneLine n true a (salvage_at (going_from 0 dead) n true a) x
  one_goes n a x at = by_copy (numbered_copy x.kind) refl where
    state : (c : Option Copied) → numbered_copy x.kind ≡ c → salvage_at (going_from 0 dead) n true a ≡ salvage_copy (going_from 0 dead) n a c
    state c is = ap (λ (o : Option Item). salvage_copy (going_from 0 dead) n a (copy_in o)) at ∙ ap (salvage_copy (going_from 0 dead) n a) is

    by_copy : (c : Option Copied) → numbered_copy x.kind ≡ c → OneLine n true a (salvage_at (going_from 0 dead) n true a) x
    by_copy (Some c) is =
        subst (λ (b : SoFar). OneLine n true a b x) (sym (state (Some c) is))
        (one_copy n a x c at is (salvage_action (going_from 0 dead) a.subs a.fresh c.number c.source (take n a.items)) refl)
    by_copy None is = subst (λ (b : SoFar). OneLine n true a b x) (sym (state None is)) (record {
      line = line_of x;
      is = ap (λ (o : Option Item). lines_of (going_from 0 dead) n true a o) at ∙
          ap (λ (o : Option Copied). line_of_copy (going_from 0 dead) n a x o ∷ []) is;
      fits = as_it_was (λ t. is);
      now = sym (split_at a.items n x at).behind;
      more = [];
      grown = sym (append-nil a.subs);
      above = λ all j z lt there. all j z (omega (arith, lt)) there;
      lost = λ loss. (λ k. inl k, λ w. elim w [ inl k ↦ k | inr own ↦ (let bad = own.3 in cc) ]);
    })

  one_line : (n : ℕ) (goes : Bool) (a : SoFar) (x y : Item) → slice_get a.items n ≡ Some y → Now goes x y →
      OneLine n goes a (salvage_at (going_from 0 dead) n goes a) x
  one_line n true a x y at (inl e) = one_goes n a x (at ∙ ap (λ (z : Item). Some z) e)
  one_line n true a x y at (inr (e, given)) = cc
  one_line n false a x y at h = one_stays n a x y at h

  -- what is known of the items before an index when they are done
  abbrev pub OwnBefore : (n : ℕ) (ls : List Line) → Loss → Type 0
  OwnBefore n ls loss = (j : ℕ) × (x : Item) × (l : Line) × (j < n) × (slice_get xs j ≡ Some x) × (slice_get ls j ≡ Some l) × Own x l loss

  pub record Done (n : ℕ) (a : SoFar) : Type 0 where
    pub long : length (lines_down (going_from 0 dead) dead n a) ≡ n
    pub lines : (j : ℕ) (x : Item) → j < n → slice_get xs j ≡ Some x →
        LineAt (salvage_down (going_from 0 dead) dead n a).subs dead (lines_down (going_from 0 dead) dead n a) j x
    pub now : all_now (lines_down (going_from 0 dead) dead n a) ++ drop n a.items ≡ (salvage_down (going_from 0 dead) dead n a).items
    pub more : List DebugSubstitution
    pub grown : (salvage_down (going_from 0 dead) dead n a).subs ≡ a.subs ++ more
    pub lost : (loss : Loss) →
        Contains (salvage_down (going_from 0 dead) dead n a).lost loss ↔ (Contains a.lost loss ⊎ OwnBefore n (lines_down (going_from 0 dead) dead n a) loss)

  down_next : (n : ℕ) (a : SoFar) (x_n : Item) → slice_get xs n ≡ Some x_n →
      (one : OneLine n (get_or dead n false) a (salvage_at (going_from 0 dead) n (get_or dead n false) a) x_n) →
      Done n (salvage_at (going_from 0 dead) n (get_or dead n false) a) → Done (suc n) a
  down_next n a x_n at_n one rest = record {
    long = ap length all_is ∙ (let e = length-append (lines_down (going_from 0 dead) dead n (salvage_at (going_from 0 dead) n (get_or dead n false) a))
        (one.line ∷ []) in let l = rest.long in omega (arith, e, l));
    lines = λ j x lt at. line_at j x lt at;
    now = ap (λ (ls : List Line). all_now ls ++ drop (suc n) a.items) all_is ∙
        ap (λ (ys : List Item). ys ++ drop (suc n) a.items) (flat_map-append (λ (l : Line). l.now)
        (lines_down (going_from 0 dead) dead n (salvage_at (going_from 0 dead) n (get_or dead n false) a)) (one.line ∷ []) ∙
        (λ t. all_now (lines_down (going_from 0 dead) dead n (salvage_at (going_from 0 dead) n (get_or dead n false) a)) ++ append-nil one.line.now t)) ∙
        append_assoc (all_now (lines_down (going_from 0 dead) dead n (salvage_at (going_from 0 dead) n (get_or dead n false) a))) one.line.now
        (drop (suc n) a.items) ∙
        ap (λ (ys : List Item). all_now (lines_down (going_from 0 dead) dead n (salvage_at (going_from 0 dead) n (get_or dead n false) a)) ++ ys) one.now
        ∙ rest.now;
    more = one.more ++ rest.more;
    grown = rest.grown ∙ ap (λ (es : List DebugSubstitution). es ++ rest.more) one.grown ∙ append_assoc a.subs one.more rest.more;
    lost = λ loss. (lost_there loss, there_lost loss);
  } where
    all_is : lines_down (going_from 0 dead) dead (suc n) a ≡
        lines_down (going_from 0 dead) dead n (salvage_at (going_from 0 dead) n (get_or dead n false) a) ++ one.line ∷ []
    all_is = ap (λ (ls : List Line). lines_down (going_from 0 dead) dead n (salvage_at (going_from 0 dead) n (get_or dead n false) a) ++ ls) one.is

    before : (j : ℕ) → j < n → slice_get (lines_down (going_from 0 dead) dead (suc n) a) j ≡
        slice_get (lines_down (going_from 0 dead) dead n (salvage_at (going_from 0 dead) n (get_or dead n false) a)) j
    before j lt =
        let l = rest.long in
        ap (λ (ls : List Line). slice_get ls j) all_is ∙
        get_left (lines_down (going_from 0 dead) dead n (salvage_at (going_from 0 dead) n (get_or dead n false) a)) (one.line ∷ []) j (omega (arith, lt, l))

    last : slice_get (lines_down (going_from 0 dead) dead (suc n) a) n ≡ Some one.line
    last = ap (λ (ls : List Line). slice_get ls n) all_is ∙
        get_last (lines_down (going_from 0 dead) dead n (salvage_at (going_from 0 dead) n (get_or dead n false) a)) one.line n rest.long

    line_at : (j : ℕ) (x : Item) → j < suc n → slice_get xs j ≡ Some x →
        LineAt (salvage_down (going_from 0 dead) dead (suc n) a).subs dead (lines_down (going_from 0 dead) dead (suc n) a) j x
    line_at j x lt at = elim (cases_eq j n) [
      | inl same ↦ (
          let s : Some x ≡ Some x_n = sym at ∙ ap (slice_get xs) same ∙ at_n in
          let x_is : x ≡ x_n = cc in (
            one.line,
            ap (slice_get (lines_down (going_from 0 dead) dead (suc n) a)) same ∙ last,
            subst (λ (z : Item). LineIs (salvage_down (going_from 0 dead) dead (suc n) a).subs (get_or dead j false) z one.line) (sym x_is)
                (subst (λ (m : ℕ). LineIs (salvage_down (going_from 0 dead) dead (suc n) a).subs (get_or dead m false) x_n one.line) (sym same)
                (subst (λ (es : List DebugSubstitution). LineIs es (get_or dead n false) x_n one.line) (sym rest.grown)
                (line_more (salvage_at (going_from 0 dead) n (get_or dead n false) a).subs rest.more (get_or dead n false) x_n one.line one.fits))),
          )
          )
      | inr ne ↦ (
          let w = rest.lines j x (omega (arith, lt, ne)) at in
          (w.0, before j (omega (arith, lt, ne)) ∙ w.1, w.2)
          )
    ]

    later_own : (loss : Loss) → OwnBefore n (lines_down (going_from 0 dead) dead n (salvage_at (going_from 0 dead) n (get_or dead n false) a)) loss →
        OwnBefore (suc n) (lines_down (going_from 0 dead) dead (suc n) a) loss
    later_own loss (j, x, l, lt, at, line, own) = (j, x, l, omega (arith, lt), at, before j lt ∙ line, own)

    lost_there : (loss : Loss) → Contains (salvage_down (going_from 0 dead) dead (suc n) a).lost loss →
        Contains a.lost loss ⊎ OwnBefore (suc n) (lines_down (going_from 0 dead) dead (suc n) a) loss
    lost_there loss k = elim ((rest.lost loss).0 k) [
      | inl here ↦ elim ((one.lost loss).0 here) [
        | inl old ↦ inl old
        | inr own ↦ inr (n, x_n, one.line, omega arith, at_n, last, own)
      ]
      | inr w ↦ inr (later_own loss w)
    ]

    there_lost : (loss : Loss) → Contains a.lost loss ⊎ OwnBefore (suc n) (lines_down (going_from 0 dead) dead (suc n) a) loss →
        Contains (salvage_down (going_from 0 dead) dead (suc n) a).lost loss
    there_lost loss (inl k) = (rest.lost loss).1 (inl ((one.lost loss).1 (inl k)))
    there_lost loss (inr (j, x, l, lt, at, line, own)) = elim (cases_eq j n) [
      | inl same ↦ (
          let s : Some x ≡ Some x_n = sym at ∙ ap (slice_get xs) same ∙ at_n in
          let x_is : x ≡ x_n = cc in
          let t : Some l ≡ Some one.line = sym line ∙ ap (slice_get (lines_down (going_from 0 dead) dead (suc n) a)) same ∙ last in
          let l_is : l ≡ one.line = cc in
          (rest.lost loss).1 (inl ((one.lost loss).1 (inr (subst (λ (z : Item). Own z one.line loss) x_is (subst (λ (m : Line). Own x m loss) l_is own)))))
          )
      | inr ne ↦ (rest.lost loss).1 (inr (j, x, l, omega (arith, lt, ne), at, sym (before j (omega (arith, lt, ne))) ∙ line, own))
    ]

  pub down : (n : ℕ) (a : SoFar) → n ≤ length xs → AreNow a.items n → Done n a
  down zero a le h = record {
    long = refl;
    lines = λ j x lt at. absurd (omega (arith, lt));
    now = drop_zero a.items;
    more = [];
    grown = sym (append-nil a.subs);
    lost = λ loss. (λ k. inl k, λ w. elim w [ inl k ↦ k | inr own ↦ absurd (let lt = own.3 in omega (arith, lt)) ]);
  }
  down (suc n) a le h =
      let t = get_there xs n (omega (arith, le)) in
      let u = h n t.0 (omega arith) t.1 in
      let one = one_line n (get_or dead n false) a t.0 u.0 u.1 u.2 in
      down_next n a t.0 t.1 one (down n (salvage_at (going_from 0 dead) n (get_or dead n false) a) (omega (arith, le)) (one.above h))
