-- Copies go from blocks one after the other: each step keeps the function sound and following.
use Rattle.std.proofs.Common.{◌≡◌, ℕ, zero, suc, ◌+◌, ◌<◌, ◌≤◌, List, [], ◌∷◌, ◌++◌, map, All, Option, Some, None, Bool, true, false}
use Rattle.std.proofs.Common.{cond, is_some, get_or, eq-eqb, append-nil, refl, sym, ap, ◌∙◌, subst, arith}
use Rattle.std.specs.Prelude.{nat_eq}
use Rattle.std.proofs.Common.{eqb-true}
use Rattle.std.proofs.Math.Nat.{le_refl}
use Rattle.std.proofs.lemmas.List.{append_assoc}
use Rattle.std.proofs.lemmas.List.Elements.{All-nil, All-cons, All-head, All-tail, All-append}
use Rattle.rv64_instr.specs.Instruction.{Instruction}
use Rattle.rv64_instr.specs.Row.{Moves, row_of}
use Rattle.mir_func.specs.declared.debug_substitution.DebugSubstitution.{DebugSubstitution}
use Rattle.mir_func.specs.declared.position.Origin.{Origin}
use Rattle.mir_func.specs.declared.location.Loc.{Loc}
use Rattle.mir_func.specs.declared.block.Block.{Block}
use Rattle.mir_func.specs.declared.item.Item.{Item}
use Rattle.mir_func.specs.declared.item.ItemKind.{ItemKind}
use Rattle.mir_func.specs.declared.item.ItemKind.TheVariants.{Code, Mark, Phi}
use Rattle.mir_func.specs.Function.{Function}
use Rattle.mir_func.specs.Sound.{IsSound}
use Rattle.pass_trait.specs.Change.{change}
use Rattle.pass_trait.specs.Rule.{item}
use Rattle.pass_salvage.specs.declared.salvage_action.SalvageAction.{SalvageAction}
use Rattle.pass_salvage.specs.declared.salvage_action.SalvageAction.TheVariants.{HasEntry, GetsEntry, GetsPhi}
use Rattle.pass_salvage.specs.SalvageAction.{or_fresh, salvage_action}
use Rattle.pass_salvage.specs.Salvage.{with_number, numbered_at, phi_for, entry_for, fresh_after}
use Rattle.pass_salvage.proofs.Chosen.{IsEntered, entered}
use Rattle.pass_edits.specs.WeakSimulation.{PreservesWeakSimulation}
use Rattle.pass_edits.proofs.Numbers.{AreUnlike, all_second}
use Rattle.copyprop_block.specs.declared.roots.Root.{Root}
use Rattle.copyprop_block.specs.Roots.{root_of, renamed, known_source, roots_after}
use Rattle.copyprop_block.specs.Copied.{SoFar, renamed_kind, renamed_item, roots_with, goes_by, by_fate, salvaged, next_item, over_items, at_block}
use Rattle.copyprop_block.specs.Copied.{BlocksSoFar, next_block, over_blocks}
use Rattle.copyprop_rule.specs.Rule.{goes}
use Rattle.copyprop_rule.proofs.Rows.{row_renamed}
use Rattle.rv64_instr.proofs.Moves.{moves_by}
use Rattle.copyprop_rule.proofs.Sizes.{known_moves}
use Rattle.copyprop_proof.specs.Renamed.{known_after, renamed_items, renamed_block}
use Rattle.copyprop_proof.proofs.Known.{IsClean, clean_none, keeps_zero, clean_after, not_itself}
use Rattle.copyprop_proof.proofs.ReplacedUsesMatch.{rooted_moves, none_known}
use Rattle.pass_edits.proofs.Around.{block_of, with_block}
use Rattle.pass_edits.proofs.Others.{BlocksUnlike, Others, others_of}
use Rattle.pass_edits.proofs.Under.{KindUnder, AreUnder, BlocksUnder, EntryUnder, items_more, blocks_more, entries_more, under_unlike}
use Rattle.pass_edits.proofs.Found.{split_at}
use Rattle.copyprop_proof.proofs.RemovedCopyMatch.{IsNoSelfCopy, takes}
use Rattle.pass_edits.proofs.Loose.{itself, then, Step, and_then}
use Rattle.copyprop_proof.proofs.TakeOut.{Taught, at_end, taught_push, taught_numbered, take_out}
use Rattle.pass_edits.proofs.ToPhi.{to_phi}
use Rattle.pass_edits.proofs.ToCode.{to_code}

-- ---- an item that stays

module _ (e : List Root) (clean : IsClean e) where
  unknown_of : (i : Instruction) → is_some (known_source e (row_of (renamed e i))) ≡ false → known_source e (row_of (renamed e i)) ≡ None
  unknown_of i h = none_known (known_source e (row_of (renamed e i))) h

  source_of : (i : Instruction) (rd s : ℕ) → row_of (renamed e i) ≡ Moves rd s → (t : ℕ) × (s ≡ root_of e t)
  source_of i rd s row = rooted_moves e (row_of i) rd s (sym (row_renamed e (keeps_zero e clean) i) ∙ row)

  pub clean_next : (k : ItemKind) → goes e (renamed_kind e k) ≡ false → IsClean (roots_with (renamed_kind e k) e)
  clean_next (Code i n) h =
      clean_after e clean (row_of (renamed e i)) (λ rd s row. (source_of i rd s row, (moves_by (renamed e i) rd s row).real)) (unknown_of i h)
  clean_next (Mark v m) h = clean
  clean_next (Phi p m) h = clean

  pub no_self : (k : ItemKind) → goes e (renamed_kind e k) ≡ false → IsNoSelfCopy (renamed_kind e k)
  no_self (Code i n) h =
      λ rd s row same. (let w = source_of i (suc rd) s row in not_itself e clean rd s w.0 w.1 (ap (known_source e) (sym row) ∙ unknown_of i h) same)
  no_self (Mark v m) h = tt
  no_self (Phi p m) h = tt

-- ---- numbers

pub renamed_under : (b : ℕ) (e : List Root) (k : ItemKind) → KindUnder b k → KindUnder b (renamed_kind e k)
renamed_under b e (Code i (Some m)) h = h
renamed_under b e (Code i None) h = tt
renamed_under b e (Mark v q) h = h
renamed_under b e (Phi p m) h = h

numbered_under : (b d n : ℕ) (xs : List Item) → n < b → AreUnder b xs → AreUnder b (numbered_at d n xs)
numbered_under b d n [] lt h = h
numbered_under b zero n (x ∷ xs) lt h =
    All-cons (λ (y : Item). KindUnder b y.kind) (record x { kind = with_number n x.kind }) xs
    (by_kind x.kind (All-head (λ (y : Item). KindUnder b y.kind) x xs h)) (All-tail (λ (y : Item). KindUnder b y.kind) x xs h) where
      by_kind : (k : ItemKind) → KindUnder b k → KindUnder b (with_number n k)
      by_kind (Code i m) u = lt
      by_kind (Mark v m) u = u
      by_kind (Phi p m) u = u
numbered_under b (suc d) n (x ∷ xs) lt h =
    All-cons (λ (y : Item). KindUnder b y.kind) x (numbered_at d n xs) (All-head (λ (y : Item). KindUnder b y.kind) x xs h)
    (numbered_under b d n xs lt (All-tail (λ (y : Item). KindUnder b y.kind) x xs h))

-- the number that code has or gets is at most the fresh one
number_most : (subs : List DebugSubstitution) (fresh k s : ℕ) (done : List Item) (d o n : ℕ) → AreUnder fresh done → IsEntered [] subs fresh k s done d o n →
    n ≤ fresh
number_most subs fresh k s done d o n h e = by_own e.own refl e.number where
  giver : (z : Option ℕ) → Item
  giver z = item (Code e.i z) e.origin e.loc

  by_own : (z : Option ℕ) → e.own ≡ z → n ≡ or_fresh fresh z → n ≤ fresh
  by_own None is same = omega (arith, same)
  by_own (Some m) is same =
      let x : Item = item (Code e.i (Some m)) e.origin e.loc in
      let w = split_at done d n x (e.stands ∙ (λ j. Some (item (Code e.i (is j)) e.origin e.loc))) in
      let all : AreUnder fresh (w.above ++ x ∷ w.behind) = subst (AreUnder fresh) w.whole h in
      let lt : m < fresh = All-head (λ (y : Item). KindUnder fresh y.kind) x w.behind
      (all_second (λ (y : Item). KindUnder fresh y.kind) w.above (x ∷ w.behind) all) in
      omega (arith, same, lt)

record NextFresh (fresh n next : ℕ) : Type 0 where
  least : fresh ≤ next
  number : n < next

next_fresh : (fresh n : ℕ) → n ≤ fresh → NextFresh fresh n (cond (nat_eq n fresh) (fresh + 1) fresh)
next_fresh fresh n le = by_test (nat_eq n fresh) refl where
  by_test : (z : Bool) → nat_eq n fresh ≡ z → NextFresh fresh n (cond z (fresh + 1) fresh)
  by_test true e = let same = eqb-true n fresh e in record { least = omega arith; number = omega (arith, same) }
  by_test false e = record { least = le_refl fresh; number = less (λ same. (let bad : true ≡ false = sym (eq-eqb n fresh same) ∙ e in cc)) } where
    less : (n ≡ fresh → ⊥) → n < fresh
    less ne = omega (arith, le, ne)

-- what is known after it
pub next_roots : (a : SoFar) (k : ItemKind) (o : Origin) (l : Loc) → (next_item a (item k o l)).roots ≡ known_after a.roots (renamed_kind a.roots k)
next_roots a (Code i n) o l = by_known (known_source a.roots (row_of (renamed a.roots i))) n where
  by_known : (s n : Option ℕ) → (by_fate a (item (Code (renamed a.roots i) n) o l) (goes_by n s)).roots ≡
      cond (is_some s) a.roots (roots_after (row_of (renamed a.roots i)) a.roots)
  by_known None n = refl
  by_known (Some s) None = refl
  by_known (Some s) (Some k) = refl
next_roots a (Mark v m) o l = refl
next_roots a (Phi p m) o l = refl

-- ---- one item

module _ (f : Function) (above : List Block) (id source_end : ℕ) (behind : List Block) where
  abbrev fn : List Item → Function
  fn items = with_block f above id source_end items behind

  -- what holds where a block's items up to one are done
  pub record Ready (a : SoFar) (rest : List Item) : Type 0 where
    pub sound : IsSound (with_block f above id source_end (a.done ++ rest) behind)
    pub clean : IsClean a.roots
    pub taught : Taught [] a.done a.roots
    pub in_above : BlocksUnder a.fresh above
    pub in_done : AreUnder a.fresh a.done
    pub in_rest : AreUnder a.fresh rest
    pub in_behind : BlocksUnder a.fresh behind
    pub in_entries : All (EntryUnder a.fresh) a.subs

  pub record Went (a b : SoFar) (x : Item) (rest : List Item) : Type 0 where
    pub ready : Ready b rest
    pub follows : PreservesWeakSimulation (change (with_block f above id source_end (a.done ++ x ∷ rest) behind) a.subs
        (with_block f above id source_end (b.done ++ rest) behind) b.subs)

  abbrev U : ℕ → Item → Type 0
  U b x = KindUnder b x.kind

  it_stays : (a : SoFar) (k : ItemKind) (o : Origin) (l : Loc) (rest : List Item) → goes a.roots (renamed_kind a.roots k) ≡ false →
      Ready a (item (renamed_kind a.roots k) o l ∷ rest) →
      Went a (record {
        done = a.done ++ item (renamed_kind a.roots k) o l ∷ [];
        roots = roots_with (renamed_kind a.roots k) a.roots;
        subs = a.subs;
        fresh =
            a.fresh;
      })
      (item (renamed_kind a.roots k) o l) rest
  it_stays a k o l rest out r =
      let x : Item = item (renamed_kind a.roots k) o l in
      let same : (a.done ++ x ∷ []) ++ rest ≡ a.done ++ x ∷ rest = append_assoc a.done (x ∷ []) rest in
      record {
        ready = record {
          sound = subst (λ (xs : List Item). IsSound (fn xs)) (sym same) r.sound;
          clean = clean_next a.roots r.clean k out;
          taught = taught_push a.done x r.taught (no_self a.roots r.clean k out);
          in_above = r.in_above;
          in_done = All-append (U a.fresh) a.done (x ∷ []) r.in_done
              (All-cons (U a.fresh) x [] (All-head (U a.fresh) x rest r.in_rest) (All-nil (U a.fresh)));
          in_rest = All-tail (U a.fresh) x rest r.in_rest;
          in_behind = r.in_behind;
          in_entries = r.in_entries;
        };
        follows = subst (λ (xs : List Item). PreservesWeakSimulation (change (fn (a.done ++ x ∷ rest)) a.subs (fn xs) a.subs)) (sym same)
            (itself (fn (a.done ++ x ∷ rest)) a.subs);
      }

  -- what isn't less than the bound is nowhere
  far_of : (b n : ℕ) → b ≤ n → (up down : List Item) → BlocksUnder b above → AreUnder b up → AreUnder b down → BlocksUnder b behind → Others n above up down
      behind
  far_of b n le up down ha hu hd hb = record {
    above = blocks_far above ha;
    up = items_far up hu;
    down = items_far down hd;
    behind = blocks_far behind hb;
  } where
    items_far : (xs : List Item) → AreUnder b xs → AreUnlike n xs
    items_far xs h j d lt = under_unlike b n le (get_or xs j d).kind (h j d lt)

    blocks_far : (bs : List Block) → BlocksUnder b bs → BlocksUnlike n bs
    blocks_far bs h j d lt m e lt' = under_unlike b n le (get_or (get_or bs j d).items m e).kind (h j d lt m e lt')

  it_goes : (a : SoFar) (x : Item) (up rest : List Item) (subs : List DebugSubstitution) (b : ℕ) → Ready a (x ∷ rest) → a.fresh ≤ b → AreUnder b up →
      All (EntryUnder b) subs → Taught [] up a.roots → Step (fn (a.done ++ x ∷ rest)) a.subs (fn (up ++ rest)) subs →
      Went a (record { done = up; roots = a.roots; subs = subs; fresh = b }) x rest
  it_goes a x up rest subs b r le under entries taught step = record {
    ready = record {
      sound = step.sound;
      clean = r.clean;
      taught = taught;
      in_above = blocks_more a.fresh b le above r.in_above;
      in_done = under;
      in_rest = items_more a.fresh b le rest (All-tail (U a.fresh) x rest r.in_rest);
      in_behind = blocks_more a.fresh b le behind r.in_behind;
      in_entries = entries;
    };
    follows = step.follows;
  }

  -- a copy without a number
  without_number : (a : SoFar) (i : Instruction) (o : Origin) (l : Loc) (rest : List Item) (rd s : ℕ) → row_of i ≡ Moves (suc rd) s → root_of a.roots
      (suc rd) ≡ s →
      Ready a (item (Code i None) o l ∷ rest) → Went a a (item (Code i None) o l) rest
  without_number a i o l rest rd s row root r =
      let x : Item = item (Code i None) o l in
      it_goes a x a.done rest a.subs a.fresh r (le_refl a.fresh) r.in_done r.in_entries r.taught
      (take_out f above id source_end behind a.fresh a.done x rest a.roots a.subs r.sound (takes rd s row root (λ m e. cc)) r.taught
      (far_of a.fresh a.fresh (le_refl a.fresh) a.done rest r.in_above r.in_done (All-tail (U a.fresh) x rest r.in_rest) r.in_behind))

  with_number_gone : (a : SoFar) (i : Instruction) (k : ℕ) (o : Origin) (l : Loc) (rest : List Item) (rd s : ℕ) → row_of i ≡ Moves (suc rd) s →
      root_of a.roots (suc rd) ≡ s → Ready a (item (Code i (Some k)) o l ∷ rest) → (w : SalvageAction) → salvage_action [] a.subs a.fresh k s a.done ≡ w →
      Went a (salvaged a k s o w) (item (Code i (Some k)) o l) rest
  with_number_gone a i k o l rest rd s row root r HasEntry is =
      let x : Item = item (Code i (Some k)) o l in
      let step = take_out f above id source_end behind k a.done x rest a.roots a.subs r.sound
      (takes rd s row root (λ m e. (let same : k ≡ m = cc in sym same))) r.taught
      (others_of f above id source_end behind k a.done x rest r.sound.numbers refl) in
      subst (λ (b : SoFar). Went a b x rest)
      (λ j. record { done = append-nil' a.done j; roots = a.roots; subs = entries-nil a.subs j; fresh = a.fresh })
      (it_goes a x a.done rest a.subs a.fresh r (le_refl a.fresh) r.in_done r.in_entries r.taught step) where
        append-nil' : (xs : List Item) → xs ≡ xs ++ []
        append-nil' xs = sym (append-nil xs)

        entries-nil : (es : List DebugSubstitution) → es ≡ es ++ []
        entries-nil es = sym (append-nil es)
  with_number_gone a i k o l rest rd s row root r GetsPhi is =
      let x : Item = item (Code i (Some k)) o l in
      let y : Item = item (Code i None) o l in
      let phi : Item = phi_for k s o in
      let up : List Item = a.done ++ phi ∷ [] in
      let lt : k < a.fresh = All-head (U a.fresh) x rest r.in_rest in
      let under : AreUnder a.fresh up = All-append (U a.fresh) a.done (phi ∷ []) r.in_done (All-cons (U a.fresh) phi [] lt (All-nil (U a.fresh))) in
      let one = to_phi f above id source_end behind k rd s a.done i o l rest a.subs r.sound row in
      let same : up ++ y ∷ rest ≡ a.done ++ phi ∷ y ∷ rest = append_assoc a.done (phi ∷ []) (y ∷ rest) in
      let taught : Taught [] up a.roots = taught_push a.done phi r.taught tt in
      let first : Step (fn (a.done ++ x ∷ rest)) a.subs (fn (up ++ y ∷ rest)) a.subs =
      subst (λ (xs : List Item). Step (fn (a.done ++ x ∷ rest)) a.subs (fn xs) a.subs) (sym same) one in
      let two = take_out f above id source_end behind a.fresh up y rest a.roots a.subs first.sound (takes rd s row root (λ m e. cc)) taught
      (far_of a.fresh a.fresh (le_refl a.fresh) up rest r.in_above under (All-tail (U a.fresh) x rest r.in_rest) r.in_behind) in
      subst (λ (es : List DebugSubstitution). Went a (record { done = up; roots = a.roots; subs = es; fresh = a.fresh }) x rest) (sym (append-nil a.subs))
      (it_goes a x up rest a.subs a.fresh r (le_refl a.fresh) under r.in_entries taught
      (and_then (fn (a.done ++ x ∷ rest)) (fn (up ++ y ∷ rest)) (fn (up ++ rest)) a.subs a.subs a.subs first two))
  with_number_gone a i k o l rest rd s row root r (GetsEntry d p n) is =
      let x : Item = item (Code i (Some k)) o l in
      let y : Item = item (Code i None) o l in
      let e : IsEntered [] a.subs a.fresh k s a.done d p n = entered [] a.subs a.fresh k s a.done d p n is in
      let up : List Item = numbered_at d n a.done in
      let lt : k < a.fresh = All-head (U a.fresh) x rest r.in_rest in
      let b : ℕ = fresh_after (GetsEntry d p n) a.fresh in
      let w : NextFresh a.fresh n b = next_fresh a.fresh n (number_most a.subs a.fresh k s a.done d p n r.in_done e) in
      let le : a.fresh ≤ b = w.least in
      let under : AreUnder b up = numbered_under b d n a.done w.number (items_more a.fresh b le a.done r.in_done) in
      let entries : All (EntryUnder b) (a.subs ++ entry_for k n p ∷ []) =
      All-append (EntryUnder b) a.subs (entry_for k n p ∷ []) (entries_more a.fresh b le a.subs r.in_entries)
      (All-cons (EntryUnder b) (entry_for k n p) [] (omega (arith, lt, le), w.number) (All-nil (EntryUnder b))) in
      let taught : Taught [] up a.roots = taught_numbered d n a.done r.taught in
      let tail : AreUnder a.fresh rest = All-tail (U a.fresh) x rest r.in_rest in
      let first : Step (fn (a.done ++ x ∷ rest)) a.subs (fn (up ++ y ∷ rest)) (a.subs ++ entry_for k n p ∷ []) =
      to_code f above id source_end behind a.fresh k n p rd s d a.done i o l rest a.subs r.sound row e
      (record { above = r.in_above; up = r.in_done; here = lt; down = tail; behind = r.in_behind; entries = r.in_entries }) in
      let two = take_out f above id source_end behind b up y rest a.roots (a.subs ++ entry_for k n p ∷ []) first.sound (takes rd s row root (λ m e. cc)) taught
      (far_of b b (le_refl b) up rest (blocks_more a.fresh b le above r.in_above) under (items_more a.fresh b le rest tail)
      (blocks_more a.fresh b le behind r.in_behind)) in
      subst (λ (xs : List Item). Went a (record { done = xs; roots = a.roots; subs = a.subs ++ entry_for k n p ∷ []; fresh = b }) x rest) (sym (append-nil up))
      (it_goes a x up rest (a.subs ++ entry_for k n p ∷ []) b r le under entries taught
      (and_then (fn (a.done ++ x ∷ rest)) (fn (up ++ y ∷ rest)) (fn (up ++ rest)) a.subs (a.subs ++ entry_for k n p ∷ [])
      (a.subs ++ entry_for k n p ∷ []) first two))

  -- by whether the copy is known
  by_source : (a : SoFar) (i : Instruction) (n : Option ℕ) (o : Origin) (l : Loc) (rest : List Item) → Ready a (item (Code (renamed a.roots i) n) o l ∷ rest) →
      (s : Option ℕ) → known_source a.roots (row_of (renamed a.roots i)) ≡ s →
      Went a (by_fate a (item (Code (renamed a.roots i) n) o l) (goes_by n s)) (item (Code (renamed a.roots i) n) o l) rest
  by_source a i n o l rest r None is = it_stays a (Code i n) o l rest (ap is_some is) r
  by_source a i None o l rest r (Some s) is =
      let w = known_moves a.roots (row_of (renamed a.roots i)) s is in without_number a (renamed a.roots i) o l rest w.0 s w.1 w.2 r
  by_source a i (Some k) o l rest r (Some s) is =
      let w = known_moves a.roots (row_of (renamed a.roots i)) s is in
      with_number_gone a (renamed a.roots i) k o l rest w.0 s w.1 w.2 r (salvage_action [] a.subs a.fresh k s a.done) refl

  pub by_kind : (a : SoFar) (k : ItemKind) (o : Origin) (l : Loc) (rest : List Item) → Ready a (item (renamed_kind a.roots k) o l ∷ rest) →
      Went a (next_item a (item k o l)) (item (renamed_kind a.roots k) o l) rest
  by_kind a (Code i n) o l rest r = by_source a i n o l rest r (known_source a.roots (row_of (renamed a.roots i))) refl
  by_kind a (Mark v m) o l rest r = it_stays a (Mark v m) o l rest refl r
  by_kind a (Phi p m) o l rest r = it_stays a (Phi p m) o l rest refl r

  -- ---- the items of a block

  pub record Over (a : SoFar) (xs : List Item) : Type 0 where
    pub ready : Ready (over_items a xs) []
    pub follows : PreservesWeakSimulation (change (with_block f above id source_end (a.done ++ renamed_items a.roots xs) behind) a.subs
        (with_block f above id source_end ((over_items a xs).done ++ []) behind) (over_items a xs).subs)

  pub over_all : (xs : List Item) (a : SoFar) → Ready a (renamed_items a.roots xs) → Over a xs
  over_all [] a r = record { ready = r; follows = itself (fn (a.done ++ [])) a.subs }
  over_all (x ∷ xs) a r =
      let b : SoFar = next_item a x in
      let y : Item = renamed_item a.roots x in
      let known : List Root = known_after a.roots (renamed_kind a.roots x.kind) in
      let one : Went a b y (renamed_items known xs) = by_kind a x.kind x.origin x.loc (renamed_items known xs) r in
      let same : b.roots ≡ known = next_roots a x.kind x.origin x.loc in
      let two : Went a b y (renamed_items b.roots xs) = subst (λ (e : List Root). Went a b y (renamed_items e xs)) (sym same) one in
      let more = over_all xs b two.ready in
      record {
        ready = more.ready;
        follows = then (fn (a.done ++ y ∷ renamed_items known xs)) (fn (b.done ++ renamed_items known xs)) (fn ((over_items b xs).done ++ [])) a.subs b.subs
            (over_items b xs).subs one.follows
            (subst (λ (e : List Root). PreservesWeakSimulation (change (fn (b.done ++ renamed_items e xs)) b.subs (fn ((over_items b xs).done ++ []))
            (over_items b xs).subs)) same
            more.follows);
      }

-- ---- the blocks of a function

pub record BlocksReady (f : Function) (a : BlocksSoFar) (bs : List Block) : Type 0 where
  pub sound : IsSound (record f { blocks = a.blocks ++ map renamed_block bs })
  pub in_blocks : BlocksUnder a.fresh a.blocks
  pub in_rest : BlocksUnder a.fresh (map renamed_block bs)
  pub in_entries : All (EntryUnder a.fresh) a.subs

abbrev B : ℕ → Block → Type 0
B b c = All (λ (x : Item). KindUnder b x.kind) c.items

-- from blocks to the items of the next, and back
pub ready_block : (f : Function) (b : Block) (bs : List Block) (a : BlocksSoFar) → BlocksReady f a (b ∷ bs) →
    Ready f a.blocks b.id b.source_end (map renamed_block bs) (at_block a.subs a.fresh) (renamed_items [] b.items)
ready_block f b bs a r = record {
  sound = r.sound;
  clean = clean_none;
  taught = at_end;
  in_above = r.in_blocks;
  in_done = All-nil (λ (x : Item). KindUnder a.fresh x.kind);
  in_rest = All-head (B a.fresh) (renamed_block b) (map renamed_block bs) r.in_rest;
  in_behind = All-tail (B a.fresh) (renamed_block b) (map renamed_block bs) r.in_rest;
  in_entries = r.in_entries;
}

pub block_shape : (f : Function) (b : Block) (a : BlocksSoFar) (done : List Item) (rest : List Block) →
    with_block f a.blocks b.id b.source_end (done ++ []) rest ≡ record f { blocks = (a.blocks ++ block_of b.id b.source_end done ∷ []) ++ rest }
block_shape f b a done rest =
    ap (λ (xs : List Item). with_block f a.blocks b.id b.source_end xs rest) (append-nil done) ∙
    ap (λ (cs : List Block). record f { blocks = cs }) (sym (append_assoc a.blocks (block_of b.id b.source_end done ∷ []) rest))

pub ready_next : (f : Function) (b : Block) (bs : List Block) (a : BlocksSoFar) →
    Ready f a.blocks b.id b.source_end (map renamed_block bs) (over_items (at_block a.subs a.fresh) b.items) [] → BlocksReady f (next_block a b) bs
ready_next f b bs a r =
    let end : SoFar = over_items (at_block a.subs a.fresh) b.items in
    let made : Block = block_of b.id b.source_end end.done in
    record {
      sound = subst IsSound (block_shape f b a end.done (map renamed_block bs)) r.sound;
      in_blocks = All-append (B end.fresh) a.blocks (made ∷ []) r.in_above (All-cons (B end.fresh) made [] r.in_done (All-nil (B end.fresh)));
      in_rest = r.in_behind;
      in_entries = r.in_entries;
    }

pub over_function : (f : Function) (bs : List Block) (a : BlocksSoFar) → BlocksReady f a bs →
    Step (record f { blocks = a.blocks ++ map renamed_block bs }) a.subs (record f { blocks = (over_blocks a bs).blocks }) (over_blocks a bs).subs
over_function f [] a r =
    let same : a.blocks ++ [] ≡ a.blocks = append-nil a.blocks in
    subst (λ (cs : List Block). Step (record f { blocks = a.blocks ++ [] }) a.subs (record f { blocks = cs }) a.subs) same
    (record { sound = r.sound; follows = itself (record f { blocks = a.blocks ++ [] }) a.subs })
over_function f (b ∷ bs) a r =
    let rest : List Block = map renamed_block bs in
    let start : SoFar = at_block a.subs a.fresh in
    let over = over_all f a.blocks b.id b.source_end rest b.items start (ready_block f b bs a r) in
    let end : SoFar = over_items start b.items in
    let made : Block = block_of b.id b.source_end end.done in
    let next : BlocksSoFar = next_block a b in
    let one : Step (record f { blocks = a.blocks ++ map renamed_block (b ∷ bs) }) a.subs (record f { blocks = (a.blocks ++ made ∷ []) ++ rest }) end.subs =
    subst (λ (g : Function). Step (record f { blocks = a.blocks ++ map renamed_block (b ∷ bs) }) a.subs g end.subs) (block_shape f b a end.done rest)
    (record { sound = over.ready.sound; follows = over.follows }) in
    let more = over_function f bs next (ready_next f b bs a over.ready) in
    and_then (record f { blocks = a.blocks ++ map renamed_block (b ∷ bs) }) (record f { blocks = (a.blocks ++ made ∷ []) ++ rest })
    (record f { blocks = (over_blocks next bs).blocks }) a.subs end.subs (over_blocks next bs).subs one more

-- ---- at the start

renamed_items_under : (b : ℕ) (xs : List Item) (e : List Root) → AreUnder b xs → AreUnder b (renamed_items e xs)
renamed_items_under b [] e h = All-nil (λ (x : Item). KindUnder b x.kind)
renamed_items_under b (x ∷ xs) e h =
    All-cons (λ (y : Item). KindUnder b y.kind) (renamed_item e x) (renamed_items (known_after e (renamed_kind e x.kind)) xs)
    (renamed_under b e x.kind (All-head (λ (y : Item). KindUnder b y.kind) x xs h))
    (renamed_items_under b xs (known_after e (renamed_kind e x.kind)) (All-tail (λ (y : Item). KindUnder b y.kind) x xs h))

pub renamed_blocks_under : (b : ℕ) (bs : List Block) → BlocksUnder b bs → BlocksUnder b (map renamed_block bs)
renamed_blocks_under b [] h = All-nil (B b)
renamed_blocks_under b (c ∷ bs) h =
    All-cons (B b) (renamed_block c) (map renamed_block bs) (renamed_items_under b c.items [] (All-head (B b) c bs h))
    (renamed_blocks_under b bs (All-tail (B b) c bs h))
