-- What taking out dead code does to debug items.
use Rattle.std.proofs.Common.{◌≡◌, inl, inr, ℕ, zero, suc, List, [], ◌∷◌, map, drop, All, Contains, Option, Some, None, Bool, true, false}
use Rattle.std.proofs.Common.{cond, ◌&&◌, append-nil, refl, sym, ap, ◌∙◌, subst, arith}
use Rattle.std.proofs.lemmas.List.Elements.{All-weaker, All-contains, All-contains_itself}
use Rattle.rv64_instr.specs.declared.place.Place.{Place}
use Rattle.rv64_instr.specs.declared.place.Place.TheVariants.{Register, Slot, Const}
use Rattle.mir_func.specs.declared.position.Pos.{Pos}
use Rattle.mir_func.specs.declared.position.Origin.{Origin}
use Rattle.mir_func.specs.declared.position.Origin.TheVariants.{Kept, Before}
use Rattle.mir_func.specs.declared.location.Loc.{Loc}
use Rattle.mir_func.specs.declared.variable.MarkValue.{MarkValue}
use Rattle.mir_func.specs.declared.variable.MarkValue.TheVariants.{Nothing, Constant, At, Pair}
use Rattle.mir_func.specs.declared.block.Block.{Block}
use Rattle.mir_func.specs.declared.debug_substitution.DebugSubstitution.{DebugSubstitution}
use Rattle.mir_func.specs.declared.item.Item.{Item}
use Rattle.mir_func.specs.declared.item.ItemKind.{ItemKind}
use Rattle.mir_func.specs.declared.item.ItemKind.TheVariants.{Code, Mark, Phi}
use Rattle.mir_func.specs.Function.{Function}
use Rattle.mir_func.specs.Sound.{ids_of, OriginIn, IsSound}
use Rattle.mir_func.specs.Graph.{Fetch, Here, front, fetch_in, from_block, rest_in, rest_of}
use Rattle.mir_func.specs.Successors.{pos_in}
use Rattle.mir_func.specs.Positions.{position_of}
use Rattle.sem_mir.specs.Align.{is_code}
use Rattle.sem_mir.specs.Live.{Defines, KindDefines}
use Rattle.sem_mir.proofs.Reading.{found, found_in}
use Rattle.pass_trait.specs.declared.loss.Reason.TheVariants.{Removed, WrongPlace}
use Rattle.pass_trait.specs.declared.loss.Loss.{Loss}
use Rattle.pass_trait.specs.Change.{Change}
use Rattle.pass_trait.specs.Rule.{item, StandsAt}
use Rattle.pass_trait.specs.Causes.{is_origin, old_program, defines, Comes}
use Rattle.pass_trait.specs.Causes.{begins, goes_on, IsFewer, IsRemoved, IsRemovedDefinition, IsKeptDefinition}
use Rattle.pass_trait.specs.Causes.{IsAfter, IsWrong, removed, HasCause, code_removed, place_wrong}
use Rattle.pass_trait.specs.Debug.{RegisterStays, ValueStays, PlaceStays, IsKillAt, Becomes}
use Rattle.pass_trait.specs.Debug.{mark_stays, phi_stays, code_stays, code_unnumbered, code_goes, number_goes}
use Rattle.pass_trait.specs.Debug.{mark_silenced, phi_silenced, BecomeAll, over, next, BlocksBecome, none, stays as block_stays, IsLoss, IsFor, KeepsItems}
use Rattle.pass_trait.proofs.NopDebug.{same_origin}
use Rattle.dce_rule.specs.Dead.{Places, Ends, is_dead, needed_at, paths_of}
use Rattle.dce_rule.specs.Wrong.{begins_dead, silenced, silenced_left, taken_out, is_dead_at, IsWrongAt, made, on}
use Rattle.dce_rule.specs.RemovalDebugRule.{LosesOf, LosesAt, NoCopies, AreLosses, AreWrong, out_rule}
use Rattle.dce_rule.proofs.Lists.{quiet, quiet_is, taken, rest_at}
use Rattle.dce_rule.proofs.Fewer.{fewer_of}
use Rattle.dce_rule.proofs.Sound.{ids_taken}

origin_block : (b : Block) (o : Origin) → OriginIn b o → (position_of o).block ≡ b.id
origin_block b (Kept p) h = h.0
origin_block b (Before p) h = h.0

of_ids : (bs : List Block) (b : Block) → Contains bs b → Contains (ids_of bs) b.id
of_ids [] b (k, lt, e) = absurd (omega (arith, lt))
of_ids (a ∷ bs) b (zero, lt, e) = (zero, omega arith, ap (λ (c : Block). c.id) e)
of_ids (a ∷ bs) b (suc k, lt, e) = let w = of_ids bs b (k, omega (arith, lt), e) in (suc w.0, (let l = w.1 in omega (arith, l)), w.2)

pub in_drop : (xs : List Item) (k : ℕ) (y : Item) (ys : List Item) → drop k xs ≡ y ∷ ys → Contains xs y
in_drop [] zero y ys e = cc
in_drop [] (suc k) y ys e = cc
in_drop (x ∷ xs) zero y ys e = let head : x ≡ y = cc in (0, omega arith, head)
in_drop (x ∷ xs) (suc k) y ys e = let w = in_drop xs k y ys e in (suc w.0, (let l = w.1 in omega (arith, l)), w.2)

-- the test and the origin of an item, which silence leaves alone
module _ (p : ItemKind → Bool) (quiet_p : (w : Places) (k : ItemKind) → p (silenced w k) ≡ p k) (o : Origin) where
  abbrev tested : Item → Bool
  tested i = p i.kind && is_origin i.origin o

  tested_quiet : (w : Places) (x : Item) → tested (quiet w x) ≡ tested x
  tested_quiet w x = ap (λ (z : Bool). z && is_origin x.origin o) (quiet_p w x.kind)

pub quiet_code : (w : Places) (k : ItemKind) → is_code (silenced w k) ≡ is_code k
quiet_code w k = quiet_is (λ z. is_code z ≡ is_code k) w k refl (λ v r e. sym (ap is_code e)) (λ y n e. sym (ap is_code e))

pub quiet_defines : (x : Place) (w : Places) (k : ItemKind) → defines x (silenced w k) ≡ defines x k
quiet_defines x w k = quiet_is (λ z. defines x z ≡ defines x k) w k refl (λ v r e. sym (ap (defines x) e)) (λ y n e. sym (ap (defines x) e))

module _ (f : Function) (sound : IsSound f) (subs : List DebugSubstitution) (ends : Ends) (wrong : Pos → Places) (exact : AreWrong ends f wrong)
    (no_copies : NoCopies ends f) where
  abbrev c : Change
  c = record { old = f; old_subs = subs; new = taken_out wrong ends f; new_subs = subs }

  -- the rest of its block where an item stands
  rest_here : (at : Pos) (x : Item) → StandsAt f at x → (is : List Item) × (rest_of f.blocks at ≡ x ∷ is)
  rest_here at x stands = rest_at false f.blocks (λ q. None) at x stands

  dead_here : (at : Pos) (x : Item) (is : List Item) (z : Bool) → rest_of f.blocks at ≡ x ∷ is → is_dead_at ends f at ≡ z →
      is_dead x.kind (needed_at is (ends at.block)) ≡ z
  dead_here at x is z e dead = ap (λ (xs : List Item). begins_dead xs (ends at.block)) (sym e) ∙ dead

  -- ---- why code was removed

  block_left : (at : Pos) (x : Item) → StandsAt f at x → Contains (ids_of c.new.blocks) (position_of x.origin).block
  block_left at x stands = by_blocks (from_block f.blocks at.block) refl (rest_here at x stands).1 where
    by_blocks : (bs : List Block) → from_block f.blocks at.block ≡ bs → rest_in bs at.item ≡ x ∷ (rest_here at x stands).0 →
        Contains (ids_of c.new.blocks) (position_of x.origin).block
    by_blocks [] h e = cc
    by_blocks (b ∷ bs) h e =
        let k = found_in f.blocks at.block b bs h in
        let inside : OriginIn b x.origin = All-contains (λ (i : Item). OriginIn b i.origin) b.items x
        (All-contains (λ (b : Block). All (λ (i : Item). OriginIn b i.origin) b.items) f.blocks b sound.origins k.0) (in_drop b.items at.item x _ e) in
        subst (λ (ns : List ℕ). Contains ns (position_of x.origin).block) (sym (ids_taken wrong ends f.blocks))
        (subst (Contains (ids_of f.blocks)) (sym (origin_block b x.origin inside)) (of_ids f.blocks b k.0))

  -- less code of dead code's origin is left
  fewer_at : (p : ItemKind → Bool) → ((w : Places) (k : ItemKind) → p (silenced w k) ≡ p k) → (at : Pos) (x : Item) → StandsAt f at x →
      is_dead_at ends f at ≡ true → p x.kind ≡ true → IsFewer c p x.origin
  fewer_at p quiet_p at x stands dead passes =
      let r = rest_here at x stands in
      fewer_of (tested p quiet_p x.origin) (tested_quiet p quiet_p x.origin) wrong ends f.blocks at x r.0 r.1 (dead_here at x r.0 true r.1 dead)
      (let same = same_origin x.origin in λ i. passes i && same i)

  dead_code_kind : (k : ItemKind) (needed : Places) → is_dead k needed ≡ true → is_code k ≡ true
  dead_code_kind (Code i n) needed e = refl
  dead_code_kind (Mark v m) needed e = cc
  dead_code_kind (Phi l n) needed e = cc

  removed_at : (at : Pos) (x : Item) → StandsAt f at x → is_dead_at ends f at ≡ true → IsRemoved c x.origin
  removed_at at x stands dead =
      let r = rest_here at x stands in (
        fewer_at is_code quiet_code at x stands dead (dead_code_kind x.kind (needed_at r.0 (ends at.block)) (dead_here at x r.0 true r.1 dead)),
        block_left at x stands,
      )

  -- ---- why a place is wrong

  defines_kind : (x : Place) (k : ItemKind) → KindDefines k x → defines x k ≡ true
  defines_kind x (Code i n) h = h
  defines_kind x (Mark v m) h = absurd h
  defines_kind x (Phi l n) h = absurd h

  kind_defines : (x : Place) (k : ItemKind) → defines x k ≡ true → KindDefines k x
  kind_defines x (Code i n) h = h
  kind_defines x (Mark v m) h = cc
  kind_defines x (Phi l n) h = cc

  item_at : (x : Place) (p : Pos) → Defines ((paths_of f).fetch p) x → (i : Item) × StandsAt f p i × (defines x i.kind ≡ true)
  item_at x p d = by_fetch ((paths_of f).fetch p) refl d where
    by_fetch : (z : Fetch) → (paths_of f).fetch p ≡ z → Defines z x → (i : Item) × StandsAt f p i × (defines x i.kind ≡ true)
    by_fetch (Here i) e d = (i, e, defines_kind x i.kind d)
    by_fetch _ e d = absurd d

  comes_wrong : (x : Place) {at : Pos} → IsWrongAt ends f x at →
      Comes (old_program c) (IsAfter c (IsRemovedDefinition c x)) (IsKeptDefinition c x) at
  comes_wrong x (made p dead d edge) =
      let w = item_at x p d in
      begins (p, (w.0, w.1, w.2, (removed_at p w.0 w.1 dead, fewer_at (defines x) (quiet_defines x) p w.0 w.1 dead w.2)), edge)
  comes_wrong x (on p w ne edge) = goes_on (comes_wrong x w) (λ kept. by_verdict (is_dead_at ends f p) refl kept) edge where
    by_verdict : (z : Bool) → is_dead_at ends f p ≡ z → IsKeptDefinition c x p → ⊥
    by_verdict true dead (i, stands, d, stays) = stays (removed_at p i stands dead, fewer_at (defines x) (quiet_defines x) p i stands dead d)
    by_verdict false stay (i, stands, d, stays) = ne stay (subst (λ (z : Fetch). Defines z x) (sym stands) (kind_defines x i.kind d))

  is_wrong : (x : Place) (at : Pos) → IsWrongAt ends f x at → IsWrong (out_rule ends) c x at
  is_wrong x at w = removed (comes_wrong x w)

  cause_of : (at : Pos) (k : ItemKind) (o : Origin) (l : Loc) (loss : Loss) → StandsAt f at (item k o l) → LosesOf ends f at k o loss →
      HasCause (out_rule ends) c at loss
  cause_of at (Code i (Some n)) o l loss stands (dead, e) = subst (HasCause (out_rule ends) c at) (sym e)
      (code_removed stands refl (no_copies at (item (Code i (Some n)) o l) stands dead) (removed_at at (item (Code i (Some n)) o l) stands dead))
  cause_of at (Code i None) o l loss stands h = absurd h
  cause_of at (Mark v (At r)) o l loss stands (w, e) = subst (HasCause (out_rule ends) c at) (sym e) (place_wrong stands refl refl (is_wrong (Register r) at w))
  cause_of at (Mark v Nothing) o l loss stands h = absurd h
  cause_of at (Mark v (Constant z)) o l loss stands h = absurd h
  cause_of at (Mark v (Pair q)) o l loss stands h = absurd h
  cause_of at (Phi (Some x) n) o l loss stands (w, e) = subst (HasCause (out_rule ends) c at) (sym e) (place_wrong stands refl refl (is_wrong x at w))
  cause_of at (Phi None n) o l loss stands h = absurd h

  -- ---- what each item becomes

  register_stays : (r : ℕ) → RegisterStays (out_rule ends) c r
  register_stays r = (λ slot h. h, λ now h. h)

  value_stays : (m : MarkValue) → ValueStays (out_rule ends) c m
  value_stays Nothing = tt
  value_stays (Constant z) = tt
  value_stays (At r) = register_stays r
  value_stays (Pair q) = tt

  place_stays : (p : Option Place) → PlaceStays (out_rule ends) c p
  place_stays None = tt
  place_stays (Some (Register r)) = register_stays r
  place_stays (Some (Slot n)) = tt
  place_stays (Some (Const z)) = tt

  -- a loss at a place is one of what stands there
  lost_here : (at : Pos) (x : Item) (loss : Loss) → StandsAt f at x → LosesAt ends f at loss → LosesOf ends f at x.kind x.origin loss
  lost_here at x loss stands (i, there, h) =
      let e : Here i ≡ Here x = sym there ∙ stands in
      let same : i ≡ x = cc in
      subst (λ (z : Item). LosesOf ends f at z.kind z.origin loss) same h

  is_not : (b : Bool) → b ≡ true → b ≡ false → ⊥
  is_not b t e = let bad : true ≡ false = sym t ∙ e in cc

  becomes_kept : (at : Pos) (k : ItemKind) (o : Origin) (l : Loc) → StandsAt f at (item k o l) → is_dead_at ends f at ≡ false →
      Becomes (out_rule ends) c at (item k o l) (item (silenced (wrong at) k) o l ∷ [])
  becomes_kept at (Code i None) o l stands stay = code_unnumbered (λ k h. h)
  becomes_kept at (Code i (Some n)) o l stands stay = code_stays (λ why h. is_not (is_dead_at ends f at) (lost_here at _ _ stands h).0 stay)
  becomes_kept at (Mark v Nothing) o l stands stay = mark_stays (λ why h. lost_here at _ _ stands h) tt
  becomes_kept at (Mark v (Constant z)) o l stands stay = mark_stays (λ why h. lost_here at _ _ stands h) tt
  becomes_kept at (Mark v (Pair q)) o l stands stay = mark_stays (λ why h. lost_here at _ _ stands h) tt
  becomes_kept at (Mark v (At r)) o l stands stay = by_test (wrong at (Register r)) refl where
    by_test : (z : Bool) → wrong at (Register r) ≡ z →
        Becomes (out_rule ends) c at (item (Mark v (At r)) o l) (item (cond z (Mark v Nothing) (Mark v (At r))) o l ∷ [])
    by_test true e = mark_silenced WrongPlace refl (item (Mark v (At r)) o l, stands, ((exact at (Register r)).0 e, refl))
    by_test false e = mark_stays (λ why h. is_not (wrong at (Register r)) ((exact at (Register r)).1 (lost_here at _ _ stands h).0) e) (register_stays r)
  becomes_kept at (Phi None n) o l stands stay = phi_stays (λ why h. lost_here at _ _ stands h) tt
  becomes_kept at (Phi (Some x) n) o l stands stay = by_test (wrong at x) refl where
    by_test : (z : Bool) → wrong at x ≡ z → Becomes (out_rule ends) c at (item (Phi (Some x) n) o l) (item (cond z (Phi None n) (Phi (Some x) n)) o l ∷ [])
    by_test true e = phi_silenced WrongPlace refl (item (Phi (Some x) n) o l, stands, ((exact at x).0 e, refl))
    by_test false e = phi_stays (λ why h. is_not (wrong at x) ((exact at x).1 (lost_here at _ _ stands h).0) e) (place_stays (Some x))

  becomes_dead : (at : Pos) (k : ItemKind) (o : Origin) (l : Loc) (is : List Item) → StandsAt f at (item k o l) →
      is_dead k (needed_at is (ends at.block)) ≡ true →
      is_dead_at ends f at ≡ true → Becomes (out_rule ends) c at (item k o l) []
  becomes_dead at (Code i None) o l is stands d dead = code_goes (λ k h. h) (inl (removed_at at _ stands dead).0)
  becomes_dead at (Code i (Some n)) o l is stands d dead = number_goes n Removed refl refl (item (Code i (Some n)) o l, stands, (dead, refl))
  becomes_dead at (Mark v m) o l is stands d dead = cc
  becomes_dead at (Phi p n) o l is stands d dead = cc

  module _ (b : Block) (member : Contains f.blocks b) where
    stands_in : (n : ℕ) (x : Item) (xs : List Item) → drop n b.items ≡ x ∷ xs →
        StandsAt f (pos_in b.id n) x × (rest_of f.blocks (pos_in b.id n) ≡ x ∷ xs)
    stands_in n x xs e =
        let w = found f.blocks sound.blocks_apart b member in (
          ap (λ (bs : List Block). fetch_in bs n) w.at ∙ ap (λ (ys : List Item). front ys b.source_end w.rest) e,
          ap (λ (bs : List Block). rest_in bs n) w.at ∙ e,
        )

    drop_next : (xs : List Item) (n : ℕ) (y : Item) (ys : List Item) → drop n xs ≡ y ∷ ys → drop (suc n) xs ≡ ys
    drop_next [] zero y ys e = cc
    drop_next [] (suc n) y ys e = cc
    drop_next (x ∷ []) zero y ys e = let tail : [] ≡ ys = cc in tail
    drop_next (x ∷ z ∷ xs) zero y ys e = let tail : z ∷ xs ≡ ys = cc in tail
    drop_next (x ∷ xs) (suc n) y ys e = drop_next xs n y ys e

    become_all : (n : ℕ) (xs : List Item) → drop n b.items ≡ xs →
        BecomeAll (out_rule ends) c b.id n xs (silenced_left (λ m. wrong (pos_in b.id m)) n xs (ends b.id))
    become_all n [] e = over
    become_all n (x ∷ xs) e = by_test (is_dead x.kind (needed_at xs (ends b.id))) refl (become_all (suc n) xs (drop_next b.items n x xs e)) where
      there : StandsAt f (pos_in b.id n) x × (rest_of f.blocks (pos_in b.id n) ≡ x ∷ xs)
      there = stands_in n x xs e

      by_test : (z : Bool) → is_dead x.kind (needed_at xs (ends b.id)) ≡ z →
          BecomeAll (out_rule ends) c b.id (suc n) xs (silenced_left (λ m. wrong (pos_in b.id m)) (suc n) xs (ends b.id)) →
          BecomeAll (out_rule ends) c b.id n (x ∷ xs) (cond z (silenced_left (λ m. wrong (pos_in b.id m)) (suc n) xs (ends b.id))
          (quiet (wrong (pos_in b.id n)) x ∷ silenced_left (λ m. wrong (pos_in b.id m)) (suc n) xs (ends b.id)))
      by_test true d more = next (becomes_dead (pos_in b.id n) x.kind x.origin x.loc xs there.0 d
          (ap (λ (ys : List Item). begins_dead ys (ends b.id)) there.1 ∙ d)) more
      by_test false d more = next (becomes_kept (pos_in b.id n) x.kind x.origin x.loc there.0 (ap (λ (ys : List Item). begins_dead ys
          (ends b.id)) there.1 ∙ d)) more

  none_killed : (b : ℕ) → All (IsKillAt (out_rule ends) c b) []
  none_killed b k d lt = absurd (omega (arith, lt))

  none_added : (losses : List Loss) → All (IsFor c losses) []
  none_added losses k d lt = absurd (omega (arith, lt))

  drop_zero : (xs : List Item) → drop 0 xs ≡ xs
  drop_zero [] = refl
  drop_zero (x ∷ xs) = refl

  blocks_become : (bs : List Block) → ((b : Block) → Contains bs b → Contains f.blocks b) → BlocksBecome (out_rule ends) c bs (map (taken wrong ends) bs)
  blocks_become [] members = none
  blocks_become (b ∷ bs) members =
      block_stays [] (silenced_left (λ n. wrong (pos_in b.id n)) 0 b.items (ends b.id)) refl refl refl refl (none_killed b.id)
      (become_all b (members b (zero, omega arith, refl)) 0 b.items (drop_zero b.items))
      (blocks_become bs (λ d h. members d (let w = h in (suc w.0, (let l = w.1 in omega (arith, l)), w.2))))

  pub out_keeps : (losses : List Loss) → AreLosses ends f losses → KeepsItems (out_rule ends) c losses
  out_keeps losses are = record {
    blocks = blocks_become f.blocks (λ b h. h);
    subs = ([], sym (append-nil subs), refl, none_added losses);
    said = All-weaker (Contains losses) (IsLoss (out_rule ends) c) (λ l h. inl ((are.each l).0 h)) losses (All-contains_itself losses);
    told = λ l h. elim h [ inl w ↦ (are.each l).1 w | inr w ↦ absurd w.3 ];
    ordered = are.ordered;
    caused = λ at l h. cause_of at h.0.kind h.0.origin h.0.loc l h.1 h.2;
    left = λ r why h. absurd h;
    spilled = λ r slot h. absurd h;
    renamed = λ r now h. absurd h;
  }
