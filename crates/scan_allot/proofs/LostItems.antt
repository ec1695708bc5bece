-- The losses are those of what becomes undef.
use Rattle.std.proofs.Common.{◌≡◌, ◌⊎◌, inl, inr, ◌↔◌, ℕ, zero, suc, ◌+◌, ◌<◌, List, [], ◌∷◌, ◌++◌, drop, Contains, Option, Some, None, Bool, true, false, cond}
use Rattle.std.proofs.Common.{refl, sym, ap, ◌∙◌, subst, arith}
use Rattle.std.specs.Prelude.{slice_get}
use Rattle.std.proofs.lemmas.List.Elements.{Contains-append_left, Contains-append_right, Contains-append_cases}
use Rattle.rv64_instr.specs.declared.place.Place.{Place}
use Rattle.rv64_instr.specs.declared.place.Place.TheVariants.{Register, Slot, Const}
use Rattle.mir_func.specs.declared.block.Block.{Block}
use Rattle.mir_func.specs.declared.debug_substitution.DebugSubstitution.{DebugSubstitution}
use Rattle.mir_func.specs.declared.item.Item.{Item}
use Rattle.mir_func.specs.declared.item.ItemKind.{ItemKind}
use Rattle.mir_func.specs.declared.item.ItemKind.TheVariants.{Code, Mark, Phi}
use Rattle.mir_func.specs.declared.position.Origin.{Origin}
use Rattle.mir_func.specs.declared.position.Pos.{Pos}
use Rattle.mir_func.specs.declared.variable.MarkValue.TheVariants.{Nothing, Constant, At, Pair}
use Rattle.mir_func.specs.Function.{Function}
use Rattle.mir_func.specs.Graph.{Here, front, fetch_in, from_block}
use Rattle.mir_func.specs.Positions.{position_of}
use Rattle.mir_func.specs.Sound.{AreApart, ids_of}
use Rattle.mir_func.specs.Successors.{pos_in}
use Rattle.pass_trait.specs.declared.loss.Loss.{Loss}
use Rattle.pass_trait.specs.declared.loss.Lost.{Lost}
use Rattle.pass_trait.specs.declared.loss.Lost.TheVariants as lost
use Rattle.pass_trait.specs.Causes.{AsksFor, IsLostWith}
use Rattle.pass_trait.specs.Change.{change}
use Rattle.pass_trait.specs.Rule.{StandsAt}
use Rattle.pass_liveness.proofs.Blocks.{block_found, from_block-at}
use Rattle.scan_stale.proofs.dce_stale.Exact.{drop_at, get_drop}
use Rattle.scan_debug.specs.Laws.{AreSilencedLosses}
use Rattle.scan_debug.specs.scan_rule.Rewrite.{allotted}
use Rattle.scan_debug.specs.scan_rule.Step.{IsSilenced, DecidesSilence}
use Rattle.scan_allot.specs.Losses.{wrong_place, lost_value, lost_place, lost_kind, lost_items, lost_blocks}

none_in : {A : Type 0} (x : A) → Contains [] x → ⊥
none_in x (k, lt, e) = omega (arith, lt)

only_one : (a l : Loss) → Contains (a ∷ []) l → l ≡ a
only_one a l (zero, lt, e) = sym e
only_one a l (suc k, lt, e) = absurd (omega (arith, lt))

-- ---- one item

-- an item's kind loses this, by its register
record Loses (silent : ℕ → Bool) (k : ItemKind) (o : Origin) (l : Loss) : Type 0 where
  register : ℕ
  what : Lost
  asks : AsksFor (Register register) k
  silences : silent register ≡ true
  lost_with : IsLostWith k o what
  is : l ≡ wrong_place what

of_cond : (z : Bool) (a l : Loss) → Contains (cond z (a ∷ []) []) l → (z ≡ true) × (l ≡ a)
of_cond true a l c = (refl, only_one a l c)
of_cond false a l c = absurd (none_in l c)

in_cond : (z : Bool) (a : Loss) → z ≡ true → Contains (cond z (a ∷ []) []) a
in_cond true a e = (0, omega arith, refl)
in_cond false a e = cc

of_kind : (silent : ℕ → Bool) (k : ItemKind) (o : Origin) (l : Loss) → Contains (lost_kind silent k o) l → Loses silent k o l
of_kind silent (Code i n) o l c = absurd (none_in l c)
of_kind silent (Mark v Nothing) o l c = absurd (none_in l c)
of_kind silent (Mark v (Constant n)) o l c = absurd (none_in l c)
of_kind silent (Mark v (Pair q)) o l c = absurd (none_in l c)
of_kind silent (Mark v (At r)) o l c =
    let w = of_cond (silent r) (wrong_place (lost.Mark (position_of o))) l c in
    record { register = r; what = lost.Mark (position_of o); asks = refl; silences = w.0; lost_with = refl; is = w.1 }
of_kind silent (Phi None n) o l c = absurd (none_in l c)
of_kind silent (Phi (Some (Slot m)) n) o l c = absurd (none_in l c)
of_kind silent (Phi (Some (Const z)) n) o l c = absurd (none_in l c)
of_kind silent (Phi (Some (Register r)) n) o l c =
    let w = of_cond (silent r) (wrong_place (lost.Number n)) l c in
    record { register = r; what = lost.Number n; asks = refl; silences = w.0; lost_with = refl; is = w.1 }

in_kind : (silent : ℕ → Bool) (k : ItemKind) (o : Origin) (r : ℕ) (what : Lost) → AsksFor (Register r) k → silent r ≡ true → IsLostWith k o what →
    Contains (lost_kind silent k o) (wrong_place what)
in_kind silent (Code i n) o r what asks e is = absurd asks
in_kind silent (Mark v Nothing) o r what asks e is = absurd asks
in_kind silent (Mark v (Constant n)) o r what asks e is = absurd asks
in_kind silent (Mark v (Pair q)) o r what asks e is = absurd asks
in_kind silent (Mark v (At s)) o r what asks e is =
    let same : r ≡ s = cc in
    subst (λ (w : Lost). Contains (lost_kind silent (Mark v (At s)) o) (wrong_place w)) (sym is)
    (in_cond (silent s) (wrong_place (lost.Mark (position_of o))) (ap silent (sym same) ∙ e))
in_kind silent (Phi None n) o r what asks e is = absurd asks
in_kind silent (Phi (Some (Slot m)) n) o r what asks e is = cc
in_kind silent (Phi (Some (Const z)) n) o r what asks e is = cc
in_kind silent (Phi (Some (Register s)) n) o r what asks e is =
    let same : r ≡ s = cc in
    subst (λ (w : Lost). Contains (lost_kind silent (Phi (Some (Register s)) n) o) (wrong_place w)) (sym is)
    (in_cond (silent s) (wrong_place (lost.Number n)) (ap silent (sym same) ∙ e))

-- ---- items and blocks

module _ (silent : Pos → ℕ → Bool) where
  -- the loss is that of the item of an index
  record OfItem (b n : ℕ) (is : List Item) (l : Loss) : Type 0 where
    index : ℕ
    item : Item
    at : slice_get is index ≡ Some item
    loses : Contains (lost_kind (silent (pos_in b (n + index))) item.kind item.origin) l

  of_items : (b n : ℕ) (is : List Item) (l : Loss) → Contains (lost_items silent b n is) l → OfItem b n is l
  of_items b n [] l c = absurd (none_in l c)
  of_items b n (i ∷ is) l c =
      elim (Contains-append_cases (lost_kind (silent (pos_in b n)) i.kind i.origin) (lost_items silent b (n + 1) is) l c) as (λ _. OfItem b n (i ∷ is) l) [
        | inl h ↦
            let none : n ≡ n + 0 = omega arith in
            record { index = 0; item = i; at = refl; loses = subst (λ (m : ℕ). Contains (lost_kind (silent (pos_in b m)) i.kind i.origin) l) none h }
        | inr h ↦
            let w = of_items b (n + 1) is l h in
            let next : n + 1 + w.index ≡ n + suc w.index = omega arith in
            record {
              index = suc w.index;
              item = w.item;
              at = w.at;
              loses = subst (λ (m : ℕ). Contains (lost_kind (silent (pos_in b m)) w.item.kind w.item.origin) l) next w.loses;
            }
      ]

  in_items : (b n : ℕ) (is : List Item) (k : ℕ) (i : Item) (l : Loss) → slice_get is k ≡ Some i →
      Contains (lost_kind (silent (pos_in b (n + k))) i.kind i.origin) l → Contains (lost_items silent b n is) l
  in_items b n [] k i l e c = cc
  in_items b n (x ∷ is) zero i l e c =
      let same : x ≡ i = cc in
      let none : n + 0 ≡ n = omega arith in
      Contains-append_left (lost_kind (silent (pos_in b n)) x.kind x.origin) (lost_items silent b (n + 1) is) l
      (subst (λ (y : Item). Contains (lost_kind (silent (pos_in b n)) y.kind y.origin) l) (sym same)
      (subst (λ (m : ℕ). Contains (lost_kind (silent (pos_in b m)) i.kind i.origin) l) none c))
  in_items b n (x ∷ is) (suc k) i l e c =
      let next : n + suc k ≡ n + 1 + k = omega arith in
      Contains-append_right (lost_kind (silent (pos_in b n)) x.kind x.origin) (lost_items silent b (n + 1) is) l
      (in_items b (n + 1) is k i l e (subst (λ (m : ℕ). Contains (lost_kind (silent (pos_in b m)) i.kind i.origin) l) next c))

  record OfBlock (bs : List Block) (l : Loss) : Type 0 where
    index : ℕ
    block : Block
    at : slice_get bs index ≡ Some block
    loses : Contains (lost_items silent block.id 0 block.items) l

  of_blocks : (bs : List Block) (l : Loss) → Contains (lost_blocks silent bs) l → OfBlock bs l
  of_blocks [] l c = absurd (none_in l c)
  of_blocks (b ∷ bs) l c =
      elim (Contains-append_cases (lost_items silent b.id 0 b.items) (lost_blocks silent bs) l c) as (λ _. OfBlock (b ∷ bs) l) [
        | inl h ↦ record { index = 0; block = b; at = refl; loses = h }
        | inr h ↦ (let w = of_blocks bs l h in record { index = suc w.index; block = w.block; at = w.at; loses = w.loses })
      ]

  in_blocks : (bs : List Block) (k : ℕ) (b : Block) (l : Loss) → slice_get bs k ≡ Some b → Contains (lost_items silent b.id 0 b.items) l →
      Contains (lost_blocks silent bs) l
  in_blocks [] k b l e c = cc
  in_blocks (x ∷ bs) zero b l e c =
      let same : x ≡ b = cc in
      Contains-append_left (lost_items silent x.id 0 x.items) (lost_blocks silent bs) l
      (subst (λ (y : Block). Contains (lost_items silent y.id 0 y.items) l) (sym same) c)
  in_blocks (x ∷ bs) (suc k) b l e c =
      Contains-append_right (lost_items silent x.id 0 x.items) (lost_blocks silent bs) l (in_blocks bs k b l e c)

-- ---- positions

module _ (f : Function) (apart : AreApart (ids_of f.blocks)) where
  stands_there : (k : ℕ) (b : Block) (m : ℕ) (i : Item) → slice_get f.blocks k ≡ Some b → slice_get b.items m ≡ Some i → StandsAt f (pos_in b.id m) i
  stands_there k b m i at here =
      ap (λ (bs : List Block). fetch_in bs m) (from_block-at f.blocks k b apart at) ∙
      ap (λ (is : List Item). front is b.source_end (drop (suc k) f.blocks)) (drop_at b.items m i here)

  record Standing (at : Pos) (i : Item) : Type 0 where
    index : ℕ
    block : Block
    at_block : slice_get f.blocks index ≡ Some block
    number : block.id ≡ at.block
    at_item : slice_get block.items at.item ≡ Some i

  front_of : (is : List Item) (k : ℕ) (bs : List Block) (i : Item) → front is k bs ≡ Here i → (rest : List Item) × (is ≡ i ∷ rest)
  front_of [] k [] i e = cc
  front_of [] k (b ∷ bs) i e = cc
  front_of (x ∷ is) k bs i e = let same : x ≡ i = cc in (is, ap (λ (y : Item). y ∷ is) same)

  where_it_stands : (at : Pos) (i : Item) → StandsAt f at i → Standing at i
  where_it_stands at i e = by_blocks (from_block f.blocks at.block) refl e where
    by_blocks : (bs : List Block) → from_block f.blocks at.block ≡ bs → fetch_in bs at.item ≡ Here i → Standing at i
    by_blocks [] h e = cc
    by_blocks (b ∷ bs) h e =
        let w = block_found f.blocks at.block b bs h in
        let v = front_of (drop at.item b.items) b.source_end bs i e in
        record { index = w.0; block = b; at_block = w.1.at; number = w.1.id; at_item = get_drop b.items at.item i v.0 v.1 }

  module _ (subs : List DebugSubstitution) (given : ℕ → Option ℕ) (silent : Pos → ℕ → Bool)
      (decides : DecidesSilence (change f subs (allotted given silent f) subs) given silent) where
    abbrev Silenced : Loss → Type 0
    Silenced l = (at : Pos) × IsSilenced (change f subs (allotted given silent f) subs) given at l

    to_silenced : (l : Loss) → Contains (lost_blocks silent f.blocks) l → Silenced l
    to_silenced l c =
        let w = of_blocks silent f.blocks l c in
        let v = of_items silent w.block.id 0 w.block.items l w.loses in
        let none : 0 + v.index ≡ v.index = omega arith in
        let k = of_kind (silent (pos_in w.block.id v.index)) v.item.kind v.item.origin l
        (subst (λ (m : ℕ). Contains (lost_kind (silent (pos_in w.block.id m)) v.item.kind v.item.origin) l) none v.loses) in
        let stands = stands_there w.index w.block v.index v.item w.at v.at in (
          pos_in w.block.id v.index,
          record {
            item = v.item;
            register = k.register;
            what = k.what;
            stands = stands;
            asks = k.asks;
            silent = (decides (pos_in w.block.id v.index) v.item k.register stands k.asks).0 k.silences;
            lost = k.lost_with;
            is = k.is;
          },
        )

    of_silenced : (l : Loss) → Silenced l → Contains (lost_blocks silent f.blocks) l
    of_silenced l (at, s) =
        let w = where_it_stands at s.item s.stands in
        let silences = (decides at s.item s.register s.stands s.asks).1 s.silent in
        let place : at ≡ pos_in w.block.id (0 + at.item) = λ t. record { block = sym w.number t; item = zero_on at.item t } in
        subst (Contains (lost_blocks silent f.blocks)) (sym s.is)
        (in_blocks silent f.blocks w.index w.block (wrong_place s.what) w.at_block
        (in_items silent w.block.id 0 w.block.items at.item s.item (wrong_place s.what) w.at_item
        (subst (λ (p : Pos). Contains (lost_kind (silent p) s.item.kind s.item.origin) (wrong_place s.what)) place
        (in_kind (silent at) s.item.kind s.item.origin s.register s.what s.asks silences s.lost)))) where
          zero_on : (n : ℕ) → n ≡ 0 + n
          zero_on n = omega arith

    pub are_silenced : (losses : List Loss) → ((l : Loss) → Contains losses l ↔ Contains (lost_blocks silent f.blocks) l) →
        AreSilencedLosses (change f subs (allotted given silent f) subs) given losses
    are_silenced losses same l = (λ c. to_silenced l ((same l).0 c), λ s. (same l).1 (of_silenced l s))
