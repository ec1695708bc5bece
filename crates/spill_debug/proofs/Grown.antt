-- Functions that grow: items stay, rewritten perhaps, and others that fall through come before and after them. What every function
-- keeps stays.
use Rattle.std.proofs.Common.{◌≡◌, ◌⊎◌, inl, inr, ℕ, suc, ◌+◌, ◌≤◌, List, [], ◌∷◌, ◌++◌, length, map, All, Option, Some, None, slice_get}
use Rattle.std.proofs.Common.{refl, sym, ap, ◌∙◌, subst, append_assoc}
use Rattle.std.specs.List.{cons_option}
use Rattle.std.proofs.lemmas.List.Concat.{flat_map-cons}
use Rattle.std.proofs.lemmas.List.Elements.{All-nil, All-cons, All-head, All-tail, All-append}
use Rattle.mir_func.specs.declared.exit.Exit.{Exit}
use Rattle.mir_func.specs.declared.exit.Exit.TheVariants.{Onward, Perhaps, Always, Final}
use Rattle.mir_func.specs.declared.block.Block.{Block}
use Rattle.mir_func.specs.declared.item.Item.{Item}
use Rattle.mir_func.specs.declared.item.ItemKind.{ItemKind}
use Rattle.mir_func.specs.declared.item.ItemKind.TheVariants.{Code, Mark, Phi}
use Rattle.mir_func.specs.Exits.{exit_of, IsAlways, Leaves}
use Rattle.mir_func.specs.Function.{Function}
use Rattle.mir_func.specs.Objects.{AreLaid}
use Rattle.mir_func.specs.declared.object.Object.{Object}
use Rattle.mir_func.specs.Limits.{MAX_BLOCKS, MAX_SLOTS}
use Rattle.mir_func.specs.Sound.{AreApart, AllItems, ids_of, items_of, number_of, code_number, NumbersOnce, OriginIn, TargetsIn, SlotsIn, ObjectsIn}
use Rattle.mir_func.specs.Sound.{LeavesPointer, KindPassesFirst}
use Rattle.mir_func.specs.Sound.{IsJumpAtMost, MayFollow, EndsWell, Closes, LastCloses, IsSoundObject, IsSound}
use Rattle.mir_func.proofs.Checks.{at_get}
use Rattle.mir_func.proofs.Once.{codes_of, codes_apart, phis_off, once_from, PhiOff, IsCode}

module _ (Fresh : ℕ → Type 0) where
  -- what is added goes on, is no code with a number, and its number is fresh
  pub record IsExtra (y : Item) : Type 0 where
    pub exit : exit_of y.kind ≡ Onward
    pub code : code_number y.kind ≡ None
    pub fresh : (k : ℕ) → number_of y.kind ≡ Some k → Fresh k

  -- what stays goes where it went, with its number
  pub record IsLike (x y : Item) : Type 0 where
    pub exit : exit_of y.kind ≡ exit_of x.kind
    pub code : code_number y.kind ≡ code_number x.kind
    pub number : number_of y.kind ≡ number_of x.kind

  -- the items of a block, and how they grow. Nothing comes before a jump, nor after what may go elsewhere
  pub data Grown : List Item → List Item → Type 0 where
    none : Grown [] []
    grows : {x y : Item} {xs ys zs : List Item} (before after : List Item) → All IsExtra before → IsLike x y → All IsExtra after →
        (before ≡ []) ⊎ (IsAlways (exit_of x.kind) → ⊥) → (after ≡ []) ⊎ (exit_of x.kind ≡ Onward) → Grown xs ys →
        zs ≡ before ++ (y ∷ (after ++ ys)) → Grown (x ∷ xs) zs

  -- and the blocks, with more at their starts
  pub data BlocksGrow : List Block → List Block → Type 0 where
    no_blocks : BlocksGrow [] []
    next_block : {a b : Block} {fs gs : List Block} (first ys : List Item) → b.id ≡ a.id → b.source_end ≡ a.source_end → All IsExtra first → Grown a.items ys →
        b.items ≡ first ++ ys → BlocksGrow fs gs → BlocksGrow (a ∷ fs) (b ∷ gs)

  grown_none : (zs : List Item) → Grown [] zs → zs ≡ []
  grown_none zs none = refl

  -- ---- ends of blocks

  ends_behind : (es zs : List Item) → All IsExtra es → EndsWell zs → EndsWell (es ++ zs)
  ends_behind [] zs h w = w
  ends_behind (e ∷ es) zs h w =
      (subst (λ (z : Exit). MayFollow z (es ++ zs)) (sym (All-head IsExtra e es h).exit) tt, ends_behind es zs (All-tail IsExtra e es h) w)

  -- a jump alone stays alone
  jump_grown : (xs zs : List Item) → Grown xs zs → IsJumpAtMost xs → IsJumpAtMost zs
  jump_grown [] zs g h = subst IsJumpAtMost (sym (grown_none zs g)) tt
  jump_grown (x ∷ []) zs (grows {y = y} {ys = ys} before after bs like ls free last more e) h = by_free free last where
    alone : before ≡ [] → after ≡ [] → IsJumpAtMost zs
    alone b a =
        let one : zs ≡ y ∷ [] = e ∙ (λ i. b i ++ (y ∷ (a i ++ grown_none ys more i))) in
        subst IsJumpAtMost (sym one) (subst IsAlways (sym like.exit) h)

    no_onward : (z : Exit) → IsAlways z → z ≡ Onward → ⊥
    no_onward (Always n) k f = cc
    no_onward Onward k f = absurd k
    no_onward (Perhaps n) k f = absurd k
    no_onward Final k f = absurd k

    by_last : before ≡ [] → (after ≡ []) ⊎ (exit_of x.kind ≡ Onward) → IsJumpAtMost zs
    by_last b (inl a) = alone b a
    by_last b (inr o) = absurd (no_onward (exit_of x.kind) h o)

    by_free : (before ≡ []) ⊎ (IsAlways (exit_of x.kind) → ⊥) → (after ≡ []) ⊎ (exit_of x.kind ≡ Onward) → IsJumpAtMost zs
    by_free (inl b) l = by_last b l
    by_free (inr never) l = absurd (never h)
  jump_grown (x ∷ z ∷ xs) zs g h = absurd h

  follow_grown : (u : Exit) (xs ys : List Item) → Grown xs ys → MayFollow u xs → MayFollow u ys
  follow_grown Onward xs ys g h = tt
  follow_grown (Perhaps n) xs ys g h = jump_grown xs ys g h
  follow_grown (Always n) xs ys g h = grown_none ys (subst (λ (z : List Item). Grown z ys) h g)
  follow_grown Final xs ys g h = grown_none ys (subst (λ (z : List Item). Grown z ys) h g)

  ends_grown : (xs zs : List Item) → Grown xs zs → EndsWell xs → EndsWell zs
  ends_grown xs zs none h = h
  ends_grown (x ∷ xs) zs (grows {y = y} {ys = ys} before after bs like ls free last more e) h =
      subst EndsWell (sym e) (ends_behind before (y ∷ (after ++ ys)) bs (
        subst (λ (z : Exit). MayFollow z (after ++ ys)) (sym like.exit) (by_last last),
        ends_behind after ys ls (ends_grown xs ys more h.1),
      )) where
        by_last : (after ≡ []) ⊎ (exit_of x.kind ≡ Onward) → MayFollow (exit_of x.kind) (after ++ ys)
        by_last (inl a) = subst (λ (z : List Item). MayFollow (exit_of x.kind) (z ++ ys)) (sym a) (follow_grown (exit_of x.kind) xs ys more h.0)
        by_last (inr o) = subst (λ (z : Exit). MayFollow z (after ++ ys)) (sym o) tt

  closes_more : (x : Item) (ys : List Item) → Closes ys → Closes (x ∷ ys)
  closes_more x [] h = absurd h
  closes_more x (y ∷ ys) h = h

  closes_behind : (es zs : List Item) → Closes zs → Closes (es ++ zs)
  closes_behind [] zs h = h
  closes_behind (e ∷ es) zs h = closes_more e (es ++ zs) (closes_behind es zs h)

  leaving_on : (u : Exit) → Leaves u → u ≡ Onward → ⊥
  leaving_on (Always n) h e = cc
  leaving_on Final h e = cc
  leaving_on Onward h e = absurd h
  leaving_on (Perhaps n) h e = absurd h

  closes_grown : (xs zs : List Item) → Grown xs zs → Closes xs → Closes zs
  closes_grown xs zs none h = absurd h
  closes_grown (x ∷ []) zs (grows {y = y} {ys = ys} before after bs like ls free last more e) h =
      subst Closes (sym e) (closes_behind before (y ∷ (after ++ ys)) (by_last last)) where
        by_last : (after ≡ []) ⊎ (exit_of x.kind ≡ Onward) → Closes (y ∷ (after ++ ys))
        by_last (inl a) =
            let rest : after ++ ys ≡ [] = λ i. a i ++ grown_none ys more i in
            subst (λ (z : List Item). Closes (y ∷ z)) (sym rest) (subst Leaves (sym like.exit) h)
        by_last (inr o) = absurd (leaving_on (exit_of x.kind) h o)
  closes_grown (x ∷ w ∷ xs) zs (grows {y = y} {ys = ys} before after bs like ls free last more e) h =
      subst Closes (sym e) (closes_behind before (y ∷ (after ++ ys)) (closes_more y (after ++ ys) (closes_behind after ys (closes_grown (w ∷ xs) ys more h))))

  last_grown : (fs gs : List Block) → BlocksGrow fs gs → LastCloses fs → LastCloses gs
  last_grown fs gs no_blocks h = h
  last_grown (a ∷ []) (b ∷ []) (next_block first ys id source_end es items e no_blocks) h =
      subst Closes (sym e) (closes_behind first ys (closes_grown a.items ys items h))
  last_grown (a ∷ c ∷ fs) (b ∷ d ∷ gs) (next_block first ys id source_end es items e rest) h = last_grown (c ∷ fs) (d ∷ gs) rest h
  last_grown (a ∷ []) (b ∷ d ∷ gs) (next_block first ys id source_end es items e rest) h = elim rest [ ]
  last_grown (a ∷ c ∷ fs) (b ∷ []) (next_block first ys id source_end es items e rest) h = elim rest [ ]

  -- ---- numbers

  codes_behind : (es zs : List Item) → All IsExtra es → codes_of (es ++ zs) ≡ codes_of zs
  codes_behind [] zs h = refl
  codes_behind (e ∷ es) zs h =
      ap (λ (o : Option ℕ). cons_option o (codes_of (es ++ zs))) (All-head IsExtra e es h).code ∙ codes_behind es zs (All-tail IsExtra e es h)

  codes_grown : (xs zs : List Item) → Grown xs zs → (us vs : List Item) → codes_of vs ≡ codes_of us → codes_of (zs ++ vs) ≡ codes_of (xs ++ us)
  codes_grown xs zs none us vs h = h
  codes_grown (x ∷ xs) zs (grows {y = y} {ys = ys} before after bs like ls free last more e) us vs h =
      let apart : (before ++ (y ∷ (after ++ ys))) ++ vs ≡ before ++ (y ∷ (after ++ (ys ++ vs))) =
      append_assoc before (y ∷ (after ++ ys)) vs ∙ ap (λ (z : List Item). before ++ (y ∷ z)) (append_assoc after ys vs) in
      let rest : codes_of (after ++ (ys ++ vs)) ≡ codes_of (xs ++ us) = codes_behind after (ys ++ vs) ls ∙ codes_grown xs ys more us vs h in
      ap (λ (z : List Item). codes_of (z ++ vs)) e ∙ ap codes_of apart ∙ codes_behind before (y ∷ (after ++ (ys ++ vs))) bs ∙
      (λ i. cons_option (like.code i) (rest i))

  all_codes_grown : (fs gs : List Block) → BlocksGrow fs gs → codes_of (items_of gs) ≡ codes_of (items_of fs)
  all_codes_grown fs gs no_blocks = refl
  all_codes_grown (a ∷ fs) (b ∷ gs) (next_block first ys id source_end es items e rest) =
      ap codes_of (flat_map-cons (λ (c : Block). c.items) b gs) ∙ ap (λ (z : List Item). codes_of (z ++ items_of gs)) e ∙
      ap codes_of (append_assoc first ys (items_of gs)) ∙ codes_behind first (ys ++ items_of gs) es ∙
      codes_grown a.items ys items (items_of fs) (items_of gs) (all_codes_grown fs gs rest) ∙
      ap codes_of (sym (flat_map-cons (λ (c : Block). c.items) a fs))

  -- a phi has no number of code, if its number isn't one
  off_by : (S : ℕ → Type 0) (k : ItemKind) → ((n : ℕ) → number_of k ≡ Some n → code_number k ≡ None → S n → ⊥) → PhiOff S k
  off_by S (Code i n) h = tt
  off_by S (Mark v m) h = tt
  off_by S (Phi p n) h = h n refl refl

  number_off : (S : ℕ → Type 0) (k : ItemKind) → PhiOff S k → (n : ℕ) → number_of k ≡ Some n → code_number k ≡ None → S n → ⊥
  number_off S (Code i m) off n e c = let bad : ◌≡◌ {A = Option ℕ} None (Some n) = sym c ∙ e in cc
  number_off S (Mark v m) off n e c = cc
  number_off S (Phi p m) off n e c = let same : m ≡ n = cc in λ k. off (subst S (sym same) k)

  module _ (S : ℕ → Type 0) (apart : (k : ℕ) → Fresh k → S k → ⊥) where
    abbrev Off : Item → Type 0
    Off i = PhiOff S i.kind

    extra_off : (es : List Item) → All IsExtra es → All Off es
    extra_off [] h = All-nil Off
    extra_off (e ∷ es) h =
        let x = All-head IsExtra e es h in
        All-cons Off e es (off_by S e.kind (λ n is c. apart n (x.fresh n is))) (extra_off es (All-tail IsExtra e es h))

    phis_grown : (xs zs : List Item) → Grown xs zs → All Off xs → All Off zs
    phis_grown xs zs none h = h
    phis_grown (x ∷ xs) zs (grows {y = y} {ys = ys} before after bs like ls free last more e) h =
        let here : Off y = off_by S y.kind (λ n is c. number_off S x.kind (All-head Off x xs h) n (sym like.number ∙ is) (sym like.code ∙ c)) in
        let rest : All Off ys = phis_grown xs ys more (All-tail Off x xs h) in
        subst (All Off) (sym e) (All-append Off before (y ∷ (after ++ ys)) (extra_off before bs)
        (All-cons Off y (after ++ ys) here (All-append Off after ys (extra_off after ls) rest)))

    all_phis_grown : (fs gs : List Block) → BlocksGrow fs gs → All Off (items_of fs) → All Off (items_of gs)
    all_phis_grown fs gs no_blocks h = h
    all_phis_grown (a ∷ fs) (b ∷ gs) (next_block first ys id source_end es items e rest) h =
        let split : All Off (a.items ++ items_of fs) = subst (All Off) (flat_map-cons (λ (c : Block). c.items) a fs) h in
        subst (All Off) (sym (flat_map-cons (λ (c : Block). c.items) b gs))
        (All-append Off b.items (items_of gs) (subst (All Off) (sym e) (All-append Off first ys (extra_off first es)
        (phis_grown a.items ys items (front a.items (items_of fs) split)))) (all_phis_grown fs gs rest (back a.items (items_of fs) split))) where
          front : (us vs : List Item) → All Off (us ++ vs) → All Off us
          front [] vs h = All-nil Off
          front (u ∷ us) vs h = All-cons Off u us (All-head Off u (us ++ vs) h) (front us vs (All-tail Off u (us ++ vs) h))

          back : (us vs : List Item) → All Off (us ++ vs) → All Off vs
          back [] vs h = h
          back (u ∷ us) vs h = back us vs (All-tail Off u (us ++ vs) h)

  all_get : (P : Item → Type 0) (xs : List Item) → ((i : ℕ) (x : Item) → slice_get xs i ≡ Some x → P x) → All P xs
  all_get P [] h = All-nil P
  all_get P (x ∷ xs) h = All-cons P x xs (h 0 x refl) (all_get P xs (λ i y e. h (suc i) y e))

  once_grown : (fs gs : List Block) → BlocksGrow fs gs → ((k : ℕ) → Fresh k → IsCode (items_of fs) k → ⊥) → NumbersOnce (items_of fs) → NumbersOnce
      (items_of gs)
  once_grown fs gs grow apart once =
      let same : codes_of (items_of gs) ≡ codes_of (items_of fs) = all_codes_grown fs gs grow in
      let S : ℕ → Type 0 = IsCode (items_of fs) in
      let off : All (λ (i : Item). PhiOff S i.kind) (items_of gs) =
      all_phis_grown S apart fs gs grow (all_get (λ (i : Item). PhiOff S i.kind) (items_of fs) (phis_off (items_of fs) once)) in
      once_from (items_of gs) (subst AreApart (sym same) (codes_apart (items_of fs) once))
      (λ i x at. subst (λ (ns : List ℕ). PhiOff (λ n. (j : ℕ) × (slice_get ns j ≡ Some n)) x.kind) (sym same)
      (at_get (λ (i : Item). PhiOff S i.kind) (items_of gs) i x off at))

  -- ---- blocks

  pub ids_grown : (fs gs : List Block) → BlocksGrow fs gs → ids_of gs ≡ ids_of fs
  ids_grown fs gs no_blocks = refl
  ids_grown (a ∷ fs) (b ∷ gs) (next_block first ys id source_end es items e rest) = let more = ids_grown fs gs rest in λ i. id i ∷ more i

  length_grown : (fs gs : List Block) → BlocksGrow fs gs → length gs ≡ length fs
  length_grown fs gs no_blocks = refl
  length_grown (a ∷ fs) (b ∷ gs) (next_block first ys id source_end es items e rest) = ap suc (length_grown fs gs rest)

  all_ends_grown : (fs gs : List Block) → BlocksGrow fs gs → All (λ (b : Block). EndsWell b.items) fs → All (λ (b : Block). EndsWell b.items) gs
  all_ends_grown fs gs no_blocks h = h
  all_ends_grown (a ∷ fs) (b ∷ gs) (next_block first ys id source_end es items e rest) h =
      All-cons (λ (b : Block). EndsWell b.items) b gs
      (subst EndsWell (sym e) (ends_behind first ys es (ends_grown a.items ys items (All-head (λ (b : Block). EndsWell b.items) a fs h))))
      (all_ends_grown fs gs rest (All-tail (λ (b : Block). EndsWell b.items) a fs h))

  -- what is left to show of a function that grew
  pub record KeepsEach (f g : Function) : Type 0 where
    pub slots_apart : AreApart g.slots
    pub few_slots : length g.slots + length g.objects ≤ MAX_SLOTS
    pub objects_same : g.objects ≡ f.objects
    pub targets : AllItems (λ i. TargetsIn (ids_of f.blocks) i.kind) g.blocks
    pub slots : AllItems (λ i. SlotsIn g.slots i.kind) g.blocks
    pub passed : AllItems (λ i. KindPassesFirst g.slots i.kind) g.blocks
    pub objects : AllItems (λ i. ObjectsIn f.objects i.kind) g.blocks
    pub pointer : AllItems (λ i. LeavesPointer i.kind) g.blocks
    pub origins : All (λ b. All (λ i. OriginIn b i.origin) b.items) g.blocks
    pub fresh : (k : ℕ) → Fresh k → IsCode (items_of f.blocks) k → ⊥

  pub sound_grown : (f g : Function) → IsSound f → BlocksGrow f.blocks g.blocks → KeepsEach f g → IsSound g
  sound_grown f g sound grow keeps =
      let ids : ids_of g.blocks ≡ ids_of f.blocks = ids_grown f.blocks g.blocks grow in
      record {
        blocks_apart = subst AreApart (sym ids) sound.blocks_apart;
        slots_apart = keeps.slots_apart;
        objects_apart = subst (λ (os : List Object). AreApart (map (λ (o : Object). o.id) os)) (sym keeps.objects_same) sound.objects_apart;
        few_blocks = subst (λ (n : ℕ). n ≤ MAX_BLOCKS) (sym (length_grown f.blocks g.blocks grow)) sound.few_blocks;
        few_slots = keeps.few_slots;
        each_object = subst (All IsSoundObject) (sym keeps.objects_same) sound.each_object;
        objects_laid = subst AreLaid (sym keeps.objects_same) sound.objects_laid;
        targets = subst (λ (ns : List ℕ). All (λ (b : Block). All (λ (i : Item). TargetsIn ns i.kind) b.items) g.blocks) (sym ids) keeps.targets;
        slots = keeps.slots;
        passed = keeps.passed;
        objects = subst (λ (os : List Object). All (λ (b : Block). All (λ (i : Item). ObjectsIn os i.kind) b.items) g.blocks) (sym keeps.objects_same)
            keeps.objects;
        pointer = keeps.pointer;
        numbers = once_grown f.blocks g.blocks grow keeps.fresh sound.numbers;
        origins = keeps.origins;
        ends = all_ends_grown f.blocks g.blocks grow sound.ends;
        last = last_grown f.blocks g.blocks grow sound.last;
      }
