-- The verdicts on blocks, one after another.
use Rattle.std.proofs.Common.{◌≡◌, ◌↔◌, ℕ, zero, suc, List, [], ◌∷◌, ◌++◌, map, Bool, true, false, cond, nat_eq, Some, slice_get, refl, ap, sym, ◌∙◌, subst}
use Rattle.std.proofs.Common.{eq-eqb, ne_eqb, arith}
use Rattle.std.proofs.lemmas.Bool.{eqb-true}
use Rattle.rv64_instr.specs.declared.place.Place.{Place}
use Rattle.mir_func.specs.declared.block.Block.{Block}
use Rattle.mir_func.specs.Function.{Function}
use Rattle.mir_func.specs.Sound.{AreApart, ids_of}
use Rattle.mir_func.specs.Graph.{fetch_in, from_block, FetchEdge, block_start}
use Rattle.mir_func.specs.Successors.{pos_in}
use Rattle.dce_rule.specs.Dead.{Places, Ends, LiveAtEnd}
use Rattle.dce_analysis.specs.Judge.{verdicts, AreJudged}

-- a block's verdicts
pub record JudgedBlock (f : Function) (b : Block) (v : List Bool) : Type 0 where
  pub needed : Places
  pub live : (x : Place) → (needed x ≡ true) ↔ LiveAtEnd f b.id x
  pub is : v ≡ verdicts b.items needed

pub data JudgedBlocks (f : Function) : List Block → List (List Bool) → Type 0 where
  none : JudgedBlocks f [] []
  one : {bs : List Block} {vs : List (List Bool)} (b : Block) (v : List Bool) → JudgedBlock f b v → JudgedBlocks f bs vs → JudgedBlocks f (b ∷ bs) (v ∷ vs)

pub one_more : {f : Function} {bs : List Block} {vs : List (List Bool)} → JudgedBlocks f bs vs → (b : Block) (v : List Bool) → JudgedBlock f b v →
    JudgedBlocks f (bs ++ b ∷ []) (vs ++ v ∷ [])
one_more none b v j = one b v j none
one_more (one a u i more) b v j = one a u i (one_more more b v j)

module _ (f : Function) where
  abbrev pub ends_of : {bs : List Block} {vs : List (List Bool)} → JudgedBlocks f bs vs → Ends
  ends_of none = λ n x. false
  ends_of (one b v j more) = λ n x. cond (nat_eq b.id n) (j.needed x) (ends_of more n x)

  -- control goes from no block that isn't there
  none_there : (n : ℕ) (x : Place) → from_block f.blocks n ≡ [] → LiveAtEnd f n x → ⊥
  none_there n x e (m, (k, down, edge), live) = subst (λ (bs : List Block). FetchEdge (λ i. i) (fetch_in bs k) (pos_in n k) (block_start m)) e edge

  live_of : {bs : List Block} {vs : List (List Bool)} (j : JudgedBlocks f bs vs) (n : ℕ) (x : Place) → (from_block bs n ≡ [] → LiveAtEnd f n x → ⊥) →
      (ends_of j n x ≡ true) ↔ LiveAtEnd f n x
  live_of none n x h = (λ e. cc, λ l. absurd (h refl l))
  live_of (one {bs = bs} b v j more) n x h = by_test (nat_eq b.id n) refl h (live_of more n x) where
    by_test : (z : Bool) → nat_eq b.id n ≡ z → (cond z (b ∷ bs) (from_block bs n) ≡ [] → LiveAtEnd f n x → ⊥) →
        ((from_block bs n ≡ [] → LiveAtEnd f n x → ⊥) → (ends_of more n x ≡ true) ↔ LiveAtEnd f n x) →
        (cond z (j.needed x) (ends_of more n x) ≡ true) ↔ LiveAtEnd f n x
    by_test true e h rec = subst (λ (m : ℕ). (j.needed x ≡ true) ↔ LiveAtEnd f m x) (eqb-true b.id n e) (j.live x)
    by_test false e h rec = rec h

  -- blocks of other numbers
  map_same : (bs : List Block) (n : ℕ) (needed : Places) (ends : Ends) → ((k : ℕ) → slice_get (ids_of bs) k ≡ Some n → ⊥) →
      map (λ (c : Block). verdicts c.items (λ x. cond (nat_eq n c.id) (needed x) (ends c.id x))) bs ≡ map (λ (c : Block). verdicts c.items (ends c.id)) bs
  map_same [] n needed ends far = refl
  map_same (c ∷ bs) n needed ends far =
      let ne : nat_eq n c.id ≡ false = ne_eqb n c.id (λ e. far 0 (ap Some (sym e))) in
      let rest = map_same bs n needed ends (λ k e. far (suc k) e) in
      λ i. verdicts c.items (λ x. cond (ne i) (needed x) (ends c.id x)) ∷ rest i

  verdicts_of : {bs : List Block} {vs : List (List Bool)} (j : JudgedBlocks f bs vs) → AreApart (ids_of bs) →
      vs ≡ map (λ (b : Block). verdicts b.items (ends_of j b.id)) bs
  verdicts_of none apart = refl
  verdicts_of (one {bs = bs} b v j more) apart =
      let same : nat_eq b.id b.id ≡ true = eq-eqb b.id b.id refl in
      let head : v ≡ verdicts b.items (λ x. cond (nat_eq b.id b.id) (j.needed x) (ends_of more b.id x)) =
      j.is ∙ (let s = sym same in λ i. verdicts b.items (λ x. cond (s i) (j.needed x) (ends_of more b.id x))) in
      let far : (k : ℕ) → slice_get (ids_of bs) k ≡ Some b.id → ⊥ = λ k e. (let z : zero ≡ suc k = apart zero (suc k) b.id refl e in omega (arith, z)) in
      let tail_apart : AreApart (ids_of bs) = λ i k n e e'. (let z : suc i ≡ suc k = apart (suc i) (suc k) n e e' in omega (arith, z)) in
      let tail = verdicts_of more tail_apart ∙ sym (map_same bs b.id j.needed (ends_of more) far) in
      λ i. head i ∷ tail i

  pub all_judged : (vs : List (List Bool)) → JudgedBlocks f f.blocks vs → AreApart (ids_of f.blocks) → AreJudged f vs
  all_judged vs j apart = record {
    ends = ends_of j;
    live = λ n x. live_of j n x (none_there n x);
    verdicts_are = verdicts_of j apart;
  }
