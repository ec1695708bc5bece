-- A round keeps all debug items, or tells their loss.
use Rattle.std.proofs.Common.{◌≡◌, ◌⊎◌, ◌↔◌, inl, inr, ℕ, zero, suc, List, [], ◌∷◌, ◌++◌, map, drop, All, Contains, Some, None, Bool, true}
use Rattle.std.proofs.Common.{false, cond, refl, sym, ap, ◌∙◌, subst, arith}
use Rattle.std.proofs.lemmas.List.Elements.{All-cons, All-head, All-tail, All-weaker, All-contains_itself}
use Rattle.std.proofs.lemmas.List.Elements.{Contains-append_left, Contains-append_right, Contains-append_cases}
use Rattle.mir_func.specs.declared.position.Pos.{Pos}
use Rattle.mir_func.specs.declared.position.Origin.{Origin}
use Rattle.mir_func.specs.declared.block.Block.{Block}
use Rattle.mir_func.specs.declared.debug_substitution.DebugSubstitution.{DebugSubstitution}
use Rattle.mir_func.specs.declared.item.Item.{Item}
use Rattle.mir_func.specs.declared.item.ItemKind.{ItemKind}
use Rattle.mir_func.specs.declared.item.ItemKind.TheVariants.{Code, Mark, Phi}
use Rattle.mir_func.specs.Function.{Function}
use Rattle.mir_func.specs.Graph.{front, fetch_in, rest_in, rest_of}
use Rattle.mir_func.specs.Resolve.{at as ends_here}
use Rattle.mir_func.specs.Sound.{items_of, code_number, IsSound}
use Rattle.mir_func.specs.Successors.{pos_in}
use Rattle.sem_mir.proofs.Reading.{found}
use Rattle.pass_trait.specs.declared.loss.Reason.TheVariants.{Removed}
use Rattle.pass_trait.specs.declared.loss.Loss.{Loss}
use Rattle.pass_trait.specs.Change.{change}
use Rattle.pass_trait.specs.Order.{IsInOrder}
use Rattle.pass_trait.specs.Rule.{StandsAt, number_lost}
use Rattle.pass_trait.specs.Debug.{IsLoss, IsFor, IsGivenOrLost, KeepsItems}
use Rattle.dce_round.specs.dce_rule.Dead.{Places, Ends, is_dead, needed_at}
use Rattle.dce_round.specs.dce_rule.Wrong.{begins_dead, silenced, silenced_left, taken_out, is_dead_at}
use Rattle.dce_round.specs.dce_rule.RemovalDebugRule.{LosesOf, LosesAt, AreWrong}
use Rattle.dce_round.proofs.dce_rule.Lists.{quiet, taken}
use Rattle.dce_round.proofs.dce_rule.Rounds.{ends_one}
use Rattle.dce_round.proofs.dce_rule.Sound.{Left, none as left_none, kept as left_kept, gone as left_gone, left_items, quiet_number}
use Rattle.dce_round.specs.dce_analysis.Judge.{AreJudged}
use Rattle.dce_round.specs.dce_salvage_proof.SalvageLaws.{begins_off, all_off, function_off, KeepsOff}
use Rattle.dce_round.proofs.dce_salvage_proof.Chain.{salvage_numbers}
use Rattle.dce_round.proofs.pass_edits.Numbers.{IsUnlike, AreUnlike, code_is_number, number_not, number_in, HasCode}
use Rattle.dce_proof.specs.DebugRule.{dead_rule}
use Rattle.dce_proof.specs.DebugLaws.{RoundKeepsItems}
use Rattle.dce_proof.proofs.Blocks.{lost_there}
use Rattle.dce_proof.proofs.Here.{c}
use Rattle.dce_proof.proofs.Become.{cause_of}
use Rattle.dce_proof.proofs.Kept.{all_become}
use Rattle.dce_proof.proofs.Told.{out_loses, own_loses, all_said}
use Rattle.dce_proof.proofs.Added.{StandsIn, Through, all_added}

-- ---- numbers on items

-- what is left has no more numbers
unlike_left : {xs ys : List Item} (k : ℕ) → Left xs ys → AreUnlike k xs → AreUnlike k ys
unlike_left k left_none h = h
unlike_left k (left_kept {xs = xs} {ys = ys} x w more) h =
    All-cons (λ (y : Item). IsUnlike k y.kind) (quiet w x) ys
    (λ m e same. All-head (λ (y : Item). IsUnlike k y.kind) x xs h m (sym (quiet_number w x.kind) ∙ e) same)
    (unlike_left k more (All-tail (λ (y : Item). IsUnlike k y.kind) x xs h))
unlike_left k (left_gone {xs = xs} x more) h = unlike_left k more (All-tail (λ (y : Item). IsUnlike k y.kind) x xs h)

-- ---- code with a number is left, or it was dead

quiet_same : (w : Places) (x : Item) (m : ℕ) → code_number x.kind ≡ Some m → quiet w x ≡ x
quiet_same w x m e = let s = by_kind x.kind e in λ t. record x { kind = s t } where
  by_kind : (k : ItemKind) → code_number k ≡ Some m → silenced w k ≡ k
  by_kind (Code i n) e = refl
  by_kind (Mark v n) e = cc
  by_kind (Phi p n) e = cc

abbrev pub WasDead : List Item → (needed : Places) → Item → Type 0
WasDead xs needed y = (j : ℕ) × (vs : List Item) × (drop j xs ≡ y ∷ vs) × (is_dead y.kind (needed_at vs needed) ≡ true)

dead_later : (x : Item) (xs : List Item) (needed : Places) (y : Item) → WasDead xs needed y → WasDead (x ∷ xs) needed y
dead_later x xs needed y (j, vs, e, dies) = (suc j, vs, e, dies)

later : (z : Item) (zs : List Item) (y : Item) → Contains zs y → Contains (z ∷ zs) y
later z zs y (k, lt, e) = (suc k, omega (arith, lt), e)

kept_or_dead : (w : ℕ → Places) (needed : Places) (n : ℕ) (xs : List Item) (y : Item) (m : ℕ) → code_number y.kind ≡ Some m → Contains xs y →
    Contains (silenced_left w n xs needed) y ⊎ WasDead xs needed y
kept_or_dead w needed n [] y m code (k, lt, e) = absurd (omega (arith, lt))
kept_or_dead w needed n (x ∷ xs) y m code (zero, lt, e) = by_test (is_dead x.kind (needed_at xs needed)) refl where
  by_test : (z : Bool) → is_dead x.kind (needed_at xs needed) ≡ z →
      Contains (cond z (silenced_left w (suc n) xs needed) (quiet (w n) x ∷ silenced_left w (suc n) xs needed)) y ⊎ WasDead (x ∷ xs) needed y
  by_test true dies = inr (0, xs, (λ t. e t ∷ xs), ap (λ (v : Item). is_dead v.kind (needed_at xs needed)) (sym e) ∙ dies)
  by_test false stays = inl (0, omega arith, quiet_same (w n) x m (ap (λ (v : Item). code_number v.kind) e ∙ code) ∙ e)
kept_or_dead w needed n (x ∷ xs) y m code (suc k, lt, e) =
    by_test (is_dead x.kind (needed_at xs needed)) (kept_or_dead w needed (suc n) xs y m code (k, omega (arith, lt), e)) where
      by_test : (z : Bool) → Contains (silenced_left w (suc n) xs needed) y ⊎ WasDead xs needed y →
          Contains (cond z (silenced_left w (suc n) xs needed) (quiet (w n) x ∷ silenced_left w (suc n) xs needed)) y ⊎ WasDead (x ∷ xs) needed y
      by_test true (inl k) = inl k
      by_test false (inl k) = inl (later (quiet (w n) x) (silenced_left w (suc n) xs needed) y k)
      by_test z (inr d) = inr (dead_later x xs needed y d)

-- ---- the items of blocks

of_flat : (bs : List Block) (y : Item) → Contains (items_of bs) y → (b : Block) × Contains bs b × Contains b.items y
of_flat [] y (k, lt, e) = absurd (omega (arith, lt))
of_flat (b ∷ bs) y h = elim (Contains-append_cases b.items (items_of bs) y h) [
  | inl here ↦ (b, (0, omega arith, refl), here)
  | inr more ↦ (let w = of_flat bs y more in (w.0, (let k = w.1 in (suc k.0, (let lt = k.1 in omega (arith, lt)), k.2)), w.2))
]

in_flat : (bs : List Block) (b : Block) (y : Item) → Contains bs b → Contains b.items y → Contains (items_of bs) y
in_flat [] b y (k, lt, e) h = absurd (omega (arith, lt))
in_flat (a ∷ bs) b y (zero, lt, e) h = Contains-append_left a.items (items_of bs) y (subst (λ (d : Block). Contains d.items y) (sym e) h)
in_flat (a ∷ bs) b y (suc k, lt, e) h = Contains-append_right a.items (items_of bs) y (in_flat bs b y (k, omega (arith, lt), e) h)

of_map : (F : Block → Block) (bs : List Block) (b : Block) → Contains bs b → Contains (map F bs) (F b)
of_map F [] b (k, lt, e) = absurd (omega (arith, lt))
of_map F (a ∷ bs) b (zero, lt, e) = (0, omega arith, ap F e)
of_map F (a ∷ bs) b (suc k, lt, e) = let w = of_map F bs b (k, omega (arith, lt), e) in (suc w.0, (let l = w.1 in omega (arith, l)), w.2)

module _ (f : Function) (subs : List DebugSubstitution) (dead : List (List Bool)) (sound : IsSound f) (judged : AreJudged f dead) (wrong : Pos → Places)
    (exact : AreWrong judged.ends (function_off f subs dead) wrong) (here losses : List Loss)
    (told : (l : Loss) → Contains here l ↔ ((at : Pos) × LosesAt judged.ends (function_off f subs dead) at l))
    (each : (l : Loss) → Contains losses l ↔ Contains ((all_off f subs dead).lost ++ here) l) (ordered : IsInOrder losses) where
  off : KeepsOff f subs dead
  off = salvage_numbers f subs dead sound

  from_off : (l : Loss) → Contains (all_off f subs dead).lost l → Contains losses l
  from_off l k = (each l).1 (Contains-append_left (all_off f subs dead).lost here l k)

  from_out : (q : Pos) (l : Loss) → LosesAt judged.ends (function_off f subs dead) q l → Contains losses l
  from_out q l h = (each l).1 (Contains-append_right (all_off f subs dead).lost here l ((told l).1 (q, h)))

  -- ---- substitutions

  code_loses : (at : Pos) (k : ItemKind) (o : Origin) (m : ℕ) → code_number k ≡ Some m → is_dead_at judged.ends (function_off f subs dead) at ≡ true →
      LosesOf judged.ends (function_off f subs dead) at k o (number_lost m Removed)
  code_loses at (Code i (Some n)) o m e dies = (dies, (let same : m ≡ n = cc in λ t. number_lost (same t) Removed))
  code_loses at (Code i None) o m e dies = cc
  code_loses at (Mark v z) o m e dies = cc
  code_loses at (Phi p z) o m e dies = cc

  given_or_lost : (m : ℕ) → HasCode m (items_of (function_off f subs dead).blocks) → IsGivenOrLost (c f subs dead sound judged wrong) losses m
  given_or_lost m (y, k, code) = by_block (of_flat (function_off f subs dead).blocks y k) where
    by_block : (b : Block) × Contains (function_off f subs dead).blocks b × Contains b.items y →
        IsGivenOrLost (c f subs dead sound judged wrong) losses m
    by_block (b, member, inside) = by_fate (kept_or_dead (λ n. wrong (pos_in b.id n)) (judged.ends b.id) 0 b.items y m code inside) where
      by_fate : Contains (silenced_left (λ n. wrong (pos_in b.id n)) 0 b.items (judged.ends b.id)) y ⊎ WasDead b.items (judged.ends b.id) y →
          IsGivenOrLost (c f subs dead sound judged wrong) losses m
      by_fate (inl stays) =
          inl (number_in (items_of (map (taken wrong judged.ends) (function_off f subs dead).blocks)) y m
          (in_flat (map (taken wrong judged.ends) (function_off f subs dead).blocks) (taken wrong judged.ends b) y
          (of_map (taken wrong judged.ends) (function_off f subs dead).blocks b member) stays) (code_is_number y.kind m code))
      by_fate (inr (j, vs, at, dies)) =
          let w = found (function_off f subs dead).blocks off.sound.blocks_apart b member in
          let stands : StandsAt (function_off f subs dead) (pos_in b.id j) y =
          ap (λ (bs : List Block). fetch_in bs j) w.at ∙ ap (λ (ys : List Item). front ys b.source_end w.rest) at in
          let rest : rest_of (function_off f subs dead).blocks (pos_in b.id j) ≡ y ∷ vs = ap (λ (bs : List Block). rest_in bs j) w.at ∙ at in
          inr (
            Removed,
            from_out (pos_in b.id j) (number_lost m Removed)
                (y, stands, code_loses (pos_in b.id j) y.kind y.origin m code (ap (λ (xs : List Item). begins_dead xs (judged.ends b.id)) rest ∙ dies)),
          )

  is_for : (e : DebugSubstitution) → StandsIn [] (function_off f subs dead).blocks (all_off f subs dead).subs e →
      IsFor (c f subs dead sound judged wrong) losses e
  is_for e w = record {
    whole = w.whole;
    gone = number_not (items_of (map (taken wrong judged.ends) (function_off f subs dead).blocks)) e.src.number
        (unlike_left e.src.number (left_items wrong judged.ends (function_off f subs dead).blocks) w.gone);
    stands = (e.dst, ends_here w.end, given_or_lost e.dst.number w.given);
  }

  -- ---- losses

  said : (l : Loss) → Contains losses l → (at : Pos) × dead_rule.loses (c f subs dead sound judged wrong) at l
  said l h = elim (Contains-append_cases (all_off f subs dead).lost here l ((each l).0 h)) [
    | inl off ↦ elim (lost_there f.blocks dead (begins_off f subs) l off) [
      | inl k ↦ absurd (let lt = k.1 in omega (arith, lt))
      | inr own ↦ own_loses f subs dead sound judged wrong l own
    ]
    | inr out ↦ (let w = (told l).0 out in out_loses f subs dead sound judged wrong w.0 l w.1)
  ]

  pub items_kept : KeepsItems dead_rule (c f subs dead sound judged wrong) losses
  items_kept =
      let t : Through f subs [] (all_off f subs dead).blocks (all_off f subs dead).subs (all_off f subs dead).fresh = all_added f subs dead sound in
      record {
        blocks = all_become f subs dead sound judged wrong exact;
        subs = (
          t.more,
          t.is,
          (dead, judged, t.is),
          All-weaker (StandsIn [] (function_off f subs dead).blocks (all_off f subs dead).subs) (IsFor (c f subs dead sound judged wrong) losses) is_for
              t.more t.stand,
        );
        said = All-weaker (Contains losses) (IsLoss dead_rule (c f subs dead sound judged wrong)) (λ l h. inl (said l h)) losses (All-contains_itself losses);
        told = λ l h. elim h [ inl w ↦ all_said f subs dead sound judged wrong losses from_off from_out w.0 l w.1 | inr w ↦ absurd w.3 ];
        ordered = ordered;
        caused = λ at l h. cause_of f subs dead sound judged wrong at h.0.kind h.0.origin h.0.loc l h.1 h.2;
        left = λ r why h. absurd h;
        spilled = λ r slot h. absurd h;
        renamed = λ r now h. absurd h;
      }

pub round_keeps : RoundKeepsItems
round_keeps f g subs more losses sound r =
    let dead = r.dead in
    let judged = r.judged in
    let off : KeepsOff f subs r.dead = salvage_numbers f subs r.dead sound in
    let e : r.out.ends ≡ r.judged.ends = sym (ends_one f (function_off f subs r.dead) off.same r.judged.ends r.out.ends r.judged.live r.out.live) in
    let exact : AreWrong r.judged.ends (function_off f subs r.dead) r.out.wrong =
    subst (λ (ends : Ends). AreWrong ends (function_off f subs r.dead) r.out.wrong) e r.out.exact in
    let told : (l : Loss) → Contains r.here l ↔ ((at : Pos) × LosesAt r.judged.ends (function_off f subs r.dead) at l) =
    subst (λ (ends : Ends). (l : Loss) → Contains r.here l ↔ ((at : Pos) × LosesAt ends (function_off f subs r.dead) at l)) e r.out.told in
    let out : g ≡ taken_out r.out.wrong r.judged.ends (function_off f subs r.dead) =
    r.out.out ∙ ap (λ (ends : Ends). taken_out r.out.wrong ends (function_off f subs r.dead)) e in
    let kept : KeepsItems dead_rule (c f subs r.dead sound r.judged r.out.wrong) losses =
    items_kept f subs r.dead sound r.judged r.out.wrong exact r.here losses told r.each r.ordered in
    subst (λ (h : Function). KeepsItems dead_rule (change f subs h more) losses) (sym out)
    (subst (λ (es : List DebugSubstitution). KeepsItems dead_rule (change f subs (taken_out r.out.wrong r.judged.ends (function_off f subs r.dead)) es) losses)
    (sym r.entries) kept)
