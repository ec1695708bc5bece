-- A round keeps all debug items, or tells their loss.
use Rattle.std.proofs.Common.{◌≡◌, ℕ, suc, ◌+◌, List, [], ◌∷◌, ◌++◌, map, drop, All, Contains, Option, Some, None, Bool, true}
use Rattle.std.proofs.Common.{false, cond, nat_eq, slice_get, refl, sym, ap, ◌∙◌, subst, arith}
use Rattle.std.proofs.lemmas.Option.{slice_get_within, get_or_from_slice_get}
use Rattle.rv64_instr.specs.declared.place.Place.{Place}
use Rattle.rv64_instr.specs.Instruction.{Instruction}
use Rattle.rv64_instr.specs.Row.{Moves, row_of}
use Rattle.mir_func.specs.declared.position.Pos.{Pos}
use Rattle.mir_func.specs.declared.position.Origin.{Origin}
use Rattle.mir_func.specs.declared.location.Loc.{Loc}
use Rattle.mir_func.specs.declared.block.Block.{Block}
use Rattle.mir_func.specs.declared.debug_substitution.DebugSubstitution.{DebugSubstitution}
use Rattle.mir_func.specs.declared.item.Item.{Item}
use Rattle.mir_func.specs.declared.item.ItemKind.{ItemKind}
use Rattle.mir_func.specs.declared.item.ItemKind.TheVariants.{Code}
use Rattle.mir_func.specs.Function.{Function}
use Rattle.mir_func.specs.Graph.{front, fetch_in, rest_in, rest_of}
use Rattle.mir_func.specs.Resolve.{entry_of}
use Rattle.mir_func.specs.Sound.{IsSound}
use Rattle.mir_func.specs.Successors.{pos_in}
use Rattle.sem_mir.proofs.Reading.{found}
use Rattle.pass_trait.specs.Change.{Change}
use Rattle.pass_trait.specs.Rule.{StandsAt, item, first_operand}
use Rattle.pass_trait.specs.Debug.{IsKillAt, Becomes, BecomeAll, over, next, BlocksBecome, none, stays as block_stays}
use Rattle.dce_round.specs.dce_rule.Dead.{Places, is_dead, needed_at}
use Rattle.dce_round.specs.dce_rule.Wrong.{begins_dead, silenced, silenced_left, is_dead_at, IsWrongAt}
use Rattle.dce_round.specs.dce_rule.RemovalDebugRule.{AreWrong}
use Rattle.dce_round.proofs.dce_rule.Lists.{quiet, taken}
use Rattle.dce_round.specs.dce_analysis.Judge.{AreJudged}
use Rattle.dce_salvage.specs.declared.salvage_numbers.Copied.{Copied}
use Rattle.dce_salvage.specs.SalvageNumbers.{without_number, phi_by_own, salvage_phi}
use Rattle.dce_round.specs.dce_salvage_proof.SalvageLaws.{begins_off, all_off, function_off}
use Rattle.dce_round.proofs.dce_salvage_proof.Copy.{copy_of as copy_is}
use Rattle.dce_round.proofs.dce_sweep.Steps.{drop_next}
use Rattle.dce_round.proofs.dce_sweep.None.{dead_is_code}
use Rattle.dce_proof.specs.SalvageLedger.{Line, line_of, ledger}
use Rattle.dce_proof.specs.DebugRule.{number, phi, dead_rule}
use Rattle.dce_proof.proofs.Lines.{LineIs, as_it_was, numbered, by_entry, by_phi, LinesAre, all_now}
use Rattle.dce_proof.proofs.Blocks.{all_lines, BlocksAre, no_blocks, and_block, lines_at, lines_for, lines_for_is}
use Rattle.dce_proof.proofs.Places.{ahead, ahead_zero, over_now, line_here, past_here}
use Rattle.dce_proof.proofs.Places.{forth, wrong_home, wrong_forth}
use Rattle.dce_proof.proofs.Here.{c, all, PlaceLine, place_line}
use Rattle.dce_proof.proofs.Become.{Stood, kept, gone, gets_number, entered_goes, phi_put}

drop_zero : (xs : List Item) → drop 0 xs ≡ xs
drop_zero [] = refl
drop_zero (x ∷ xs) = refl

of_get : {A : Type 0} (xs : List A) (n : ℕ) (x : A) → slice_get xs n ≡ Some x → Contains xs x
of_get xs n x at = (n, slice_get_within xs n x at, get_or_from_slice_get xs n x x at)

silenced_code : (w : Places) (i : Instruction) (n : Option ℕ) → silenced w (Code i n) ≡ Code i n
silenced_code w i n = refl

module _ (f : Function) (subs : List DebugSubstitution) (dead : List (List Bool)) (sound : IsSound f) (judged : AreJudged f dead) (wrong : Pos → Places)
    (exact : AreWrong judged.ends (function_off f subs dead) wrong) where
  abbrev fo : Function
  fo = function_off f subs dead

  abbrev final : List DebugSubstitution
  final = (all_off f subs dead).subs

  abbrev lss : List (List Line)
  lss = all_lines dead f.blocks (begins_off f subs)

  abbrev C : Change
  C = c f subs dead sound judged wrong

  every : BlocksAre (all_off f subs dead).subs judged.ends f.blocks (all_lines dead f.blocks (begins_off f subs)) (function_off f subs dead).blocks
  every = all f subs dead sound judged wrong

  there_pos : Pos → Pos
  there_pos at = forth (all_off f subs dead).subs judged.ends f (function_off f subs dead) (all_lines dead f.blocks (begins_off f subs)) every at

  -- ---- what each item of a block becomes

  module _ (j : ℕ) (b : Block) (ls : List Line) (at_b : slice_get f.blocks j ≡ Some b)
      (at_ls : slice_get (all_lines dead f.blocks (begins_off f subs)) j ≡ Some ls)
      (lines : LinesAre (all_off f subs dead).subs (judged.ends b.id) b.items ls) where
    led : ledger f subs dead b.id ≡ ls
    led = lines_at f.blocks dead (begins_off f subs) sound.blocks_apart j b ls at_b at_ls

    led_for : lines_for f.blocks (all_lines dead f.blocks (begins_off f subs)) b.id ≡ ls
    led_for = lines_for_is f.blocks dead (begins_off f subs) b.id ∙ led

    stands_in : (n : ℕ) (x : Item) (xs : List Item) → drop n b.items ≡ x ∷ xs →
        StandsAt f (pos_in b.id n) x × (rest_of f.blocks (pos_in b.id n) ≡ x ∷ xs)
    stands_in n x xs e =
        let w = found f.blocks sound.blocks_apart b (of_get f.blocks j b at_b) in (
          ap (λ (bs : List Block). fetch_in bs n) w.at ∙ ap (λ (ys : List Item). front ys b.source_end w.rest) e,
          ap (λ (bs : List Block). rest_in bs n) w.at ∙ e,
        )

    -- what is known of an item of the block
    stood : (n : ℕ) (x : Item) (xs : List Item) → drop n b.items ≡ x ∷ xs → (l : Line) → slice_get ls n ≡ Some l →
        Stood f subs dead sound judged wrong (pos_in b.id n) x l (pos_in b.id (ahead ls n))
    stood n x xs e l at_l = record {
      stands = (stands_in n x xs e).0;
      has = record { dead = dead; judged = judged; stands = ap (λ (ms : List Line). slice_get ms n) led ∙ at_l };
      wrongs = λ p. (wrong_before p, wrong_after p);
    } where
      at : Pos
      at = pos_in b.id n

      q_is : forth (all_off f subs dead).subs judged.ends f (function_off f subs dead) (all_lines dead f.blocks (begins_off f subs)) every (pos_in b.id n) ≡
          pos_in b.id (ahead ls n)
      q_is = λ t. pos_in b.id (ahead (led_for t) n)

      line : PlaceLine f subs dead sound judged wrong (pos_in b.id n) x
      line = place_line f subs dead sound judged wrong (pos_in b.id n) x (stands_in n x xs e).0

      wrong_before : (p : Place) → wrong (pos_in b.id (ahead ls n)) p ≡ true → IsWrongAt judged.ends f p (pos_in b.id n)
      wrong_before p h =
          subst (IsWrongAt judged.ends f p) line.back_home
          (wrong_home (all_off f subs dead).subs judged.ends f (function_off f subs dead) (all_lines dead f.blocks (begins_off f subs)) every p
          ((exact (forth (all_off f subs dead).subs judged.ends f (function_off f subs dead) (all_lines dead f.blocks (begins_off f subs)) every
          (pos_in b.id n)) p).0 (ap (λ (r : Pos). wrong r p) q_is ∙ h)))

      wrong_after : (p : Place) → IsWrongAt judged.ends f p (pos_in b.id n) → wrong (pos_in b.id (ahead ls n)) p ≡ true
      wrong_after p w =
          ap (λ (r : Pos). wrong r p) (sym q_is) ∙
          (exact (forth (all_off f subs dead).subs judged.ends f (function_off f subs dead) (all_lines dead f.blocks (begins_off f subs)) every
          (pos_in b.id n)) p).1
          (wrong_forth (all_off f subs dead).subs judged.ends f (function_off f subs dead) (all_lines dead f.blocks (begins_off f subs)) every p w)

    abbrev W : ℕ → Places
    W = λ m. wrong (pos_in b.id m)

    abbrev All_become : ℕ → List Item → List Item → Type 0
    All_become n xs ys = BecomeAll dead_rule (c f subs dead sound judged wrong) b.id n xs ys

    -- a copy whose number an entry stands for
    abbrev EntryCase : (n : ℕ) → Item → (xs zs : List Item) → ItemKind → Type 0
    EntryCase n x xs zs kk =
        drop n b.items ≡ item kk x.origin x.loc ∷ xs → slice_get ls n ≡ Some (record { now = item (without_number kk) x.origin x.loc ∷ []; phi = None }) →
        is_dead_at judged.ends f (pos_in b.id n) ≡ true → is_dead kk (needed_at zs (judged.ends b.id)) ≡ true →
        BecomeAll dead_rule (c f subs dead sound judged wrong) b.id n (item kk x.origin x.loc ∷ xs)
        (silenced_left (λ m. wrong (pos_in b.id m)) (ahead ls n) (item (without_number kk) x.origin x.loc ∷ zs) (judged.ends b.id))

    entry_line : (n : ℕ) (i : Instruction) (k rd s : ℕ) (o : Origin) (d : Loc) (xs zs : List Item) (entry : DebugSubstitution) → row_of i ≡ Moves (suc rd) s →
        entry_of (all_off f subs dead).subs (first_operand k) ≡ Some entry → drop n b.items ≡ item (Code i (Some k)) o d ∷ xs →
        slice_get ls n ≡ Some (record { now = item (Code i None) o d ∷ []; phi = None }) → is_dead_at judged.ends f (pos_in b.id n) ≡ true →
        is_dead (Code i (Some k)) (needed_at zs (judged.ends b.id)) ≡ true →
        BecomeAll dead_rule (c f subs dead sound judged wrong) b.id (suc n) xs
        (silenced_left (λ m. wrong (pos_in b.id m)) (suc (ahead ls n)) zs (judged.ends b.id)) →
        BecomeAll dead_rule (c f subs dead sound judged wrong) b.id n (item (Code i (Some k)) o d ∷ xs)
        (silenced_left (λ m. wrong (pos_in b.id m)) (ahead ls n) (item (Code i None) o d ∷ zs) (judged.ends b.id))
    entry_line n i k rd s o d xs zs entry row is e at dies dead_zs more = by_test (is_dead (Code i None) (needed_at zs (judged.ends b.id))) dead_zs where
      by_test : (z : Bool) → z ≡ true → BecomeAll dead_rule (c f subs dead sound judged wrong) b.id n (item (Code i (Some k)) o d ∷ xs)
          (cond z (silenced_left (λ m. wrong (pos_in b.id m)) (suc (ahead ls n)) zs (judged.ends b.id))
          (item (Code i None) o d ∷ silenced_left (λ m. wrong (pos_in b.id m)) (suc (ahead ls n)) zs (judged.ends b.id)))
      by_test true h =
          next (entered_goes f subs dead sound judged wrong (pos_in b.id n) i k rd s o d (pos_in b.id (ahead ls n)) entry row
          (stood n (item (Code i (Some k)) o d) xs e (record { now = item (Code i None) o d ∷ []; phi = None }) at) dies is) more
      by_test false h = cc

    -- a copy for whose number a phi is put
    abbrev PhiCase : (n : ℕ) → Item → (xs zs : List Item) → Copied → ItemKind → Type 0
    PhiCase n x xs zs z kk =
        drop n b.items ≡ item kk x.origin x.loc ∷ xs →
        slice_get ls n ≡ Some (record { now = salvage_phi z x.origin ∷ item (without_number kk) x.origin x.loc ∷ []; phi = Some z.source }) →
        is_dead_at judged.ends f (pos_in b.id n) ≡ true → is_dead kk (needed_at zs (judged.ends b.id)) ≡ true →
        BecomeAll dead_rule (c f subs dead sound judged wrong) b.id n (item kk x.origin x.loc ∷ xs)
        (silenced_left (λ m. wrong (pos_in b.id m)) (ahead ls n) (salvage_phi z x.origin ∷ item (without_number kk) x.origin x.loc ∷ zs) (judged.ends b.id))

    phi_first : (own : Bool) (k s : ℕ) (o : Origin) (m : ℕ) (ys : List Item) →
        silenced_left (λ m. wrong (pos_in b.id m)) m (phi_by_own own k s o ∷ ys) (judged.ends b.id) ≡
        quiet (wrong (pos_in b.id m)) (phi_by_own own k s o) ∷ silenced_left (λ m. wrong (pos_in b.id m)) (suc m) ys (judged.ends b.id)
    phi_first true k s o m ys = refl
    phi_first false k s o m ys = refl

    phi_line : (n : ℕ) (i : Instruction) (rd : ℕ) (o : Origin) (d : Loc) (xs zs : List Item) (z : Copied) → z.own ≡ nat_eq (suc rd) z.source →
        row_of i ≡ Moves (suc rd) z.source → drop n b.items ≡ item (Code i (Some z.number)) o d ∷ xs →
        slice_get ls n ≡ Some (record { now = salvage_phi z o ∷ item (Code i None) o d ∷ []; phi = Some z.source }) →
        is_dead_at judged.ends f (pos_in b.id n) ≡ true → is_dead (Code i (Some z.number)) (needed_at zs (judged.ends b.id)) ≡ true →
        BecomeAll dead_rule (c f subs dead sound judged wrong) b.id (suc n) xs
        (silenced_left (λ m. wrong (pos_in b.id m)) (suc (suc (ahead ls n))) zs (judged.ends b.id)) →
        BecomeAll dead_rule (c f subs dead sound judged wrong) b.id n (item (Code i (Some z.number)) o d ∷ xs)
        (silenced_left (λ m. wrong (pos_in b.id m)) (ahead ls n) (salvage_phi z o ∷ item (Code i None) o d ∷ zs) (judged.ends b.id))
    phi_line n i rd o d xs zs z own row e at dies dead_zs more =
        subst (BecomeAll dead_rule (c f subs dead sound judged wrong) b.id n (item (Code i (Some z.number)) o d ∷ xs))
        (sym (phi_first z.own z.number z.source o (ahead ls n) (item (Code i None) o d ∷ zs)))
        (by_test (is_dead (Code i None) (needed_at zs (judged.ends b.id))) dead_zs) where
          by_test : (v : Bool) → v ≡ true → BecomeAll dead_rule (c f subs dead sound judged wrong) b.id n (item (Code i (Some z.number)) o d ∷ xs)
              (quiet (wrong (pos_in b.id (ahead ls n))) (phi_by_own z.own z.number z.source o) ∷
              cond v (silenced_left (λ m. wrong (pos_in b.id m)) (suc (suc (ahead ls n))) zs (judged.ends b.id))
              (item (Code i None) o d ∷ silenced_left (λ m. wrong (pos_in b.id m)) (suc (suc (ahead ls n))) zs (judged.ends b.id)))
          by_test true h =
              next (subst (λ (b' : Bool). Becomes dead_rule (c f subs dead sound judged wrong) (pos_in b.id n) (item (Code i (Some z.number)) o d)
              (quiet (wrong (pos_in b.id (ahead ls n))) (phi_by_own b' z.number z.source o) ∷ [])) (sym own)
              (phi_put f subs dead sound judged wrong (pos_in b.id n) i z.number rd z.source o d (pos_in b.id (ahead ls n)) z refl refl own row
              (stood n (item (Code i (Some z.number)) o d) xs e (record { now = salvage_phi z o ∷ item (Code i None) o d ∷ []; phi = Some z.source }) at)
              dies)) more
          by_test false h = cc

    -- one item, and those behind it
    by_line : (n : ℕ) (x : Item) (xs : List Item) (l : Line) (zs : List Item) → drop n b.items ≡ x ∷ xs → slice_get ls n ≡ Some l →
        LineIs (all_off f subs dead).subs (is_dead x.kind (needed_at xs (judged.ends b.id))) x l →
        is_dead_at judged.ends f (pos_in b.id n) ≡ is_dead x.kind (needed_at xs (judged.ends b.id)) →
        needed_at zs (judged.ends b.id) ≡ needed_at xs (judged.ends b.id) →
        BecomeAll dead_rule (c f subs dead sound judged wrong) b.id (suc n) xs
        (silenced_left (λ m. wrong (pos_in b.id m)) (over_now l.now (ahead ls n)) zs (judged.ends b.id)) →
        BecomeAll dead_rule (c f subs dead sound judged wrong) b.id n (x ∷ xs)
        (silenced_left (λ m. wrong (pos_in b.id m)) (ahead ls n) (l.now ++ zs) (judged.ends b.id))
    by_line n x xs l zs e at_l (as_it_was q) verdict needs more =
        by_test (is_dead x.kind (needed_at zs (judged.ends b.id))) (ap (is_dead x.kind) needs) where
          w : Stood f subs dead sound judged wrong (pos_in b.id n) x (line_of x) (pos_in b.id (ahead ls n))
          w = stood n x xs e (line_of x) at_l

          by_test : (z : Bool) → z ≡ is_dead x.kind (needed_at xs (judged.ends b.id)) →
              BecomeAll dead_rule (c f subs dead sound judged wrong) b.id n (x ∷ xs)
              (cond z (silenced_left (λ m. wrong (pos_in b.id m)) (suc (ahead ls n)) zs (judged.ends b.id))
              (quiet (wrong (pos_in b.id (ahead ls n))) x ∷ silenced_left (λ m. wrong (pos_in b.id m)) (suc (ahead ls n)) zs (judged.ends b.id)))
          by_test true h =
              next (gone f subs dead sound judged wrong (pos_in b.id n) x.kind x.origin x.loc (pos_in b.id (ahead ls n)) w (verdict ∙ sym h)
              (dead_is_code x.kind (needed_at xs (judged.ends b.id)) (sym h)) (q (sym h))) more
          by_test false h =
              next (kept f subs dead sound judged wrong (pos_in b.id n) x.kind x.origin x.loc (pos_in b.id (ahead ls n)) w (verdict ∙ sym h)) more
    by_line n x xs l zs e at_l (numbered {i} {k} {o} {l = d} stay) verdict needs more =
        by_test (is_dead (Code i (Some k)) (needed_at zs (judged.ends b.id))) (ap (is_dead (Code i (Some k))) needs ∙ stay) where
          w : Stood f subs dead sound judged wrong (pos_in b.id n) (item (Code i None) o d) (record { now = item (Code i (Some k)) o d ∷ []; phi = None })
              (pos_in b.id (ahead ls n))
          w = stood n (item (Code i None) o d) xs e (record { now = item (Code i (Some k)) o d ∷ []; phi = None }) at_l

          by_test : (z : Bool) → z ≡ false →
              BecomeAll dead_rule (c f subs dead sound judged wrong) b.id n (item (Code i None) o d ∷ xs)
              (cond z (silenced_left (λ m. wrong (pos_in b.id m)) (suc (ahead ls n)) zs (judged.ends b.id))
              (item (Code i (Some k)) o d ∷ silenced_left (λ m. wrong (pos_in b.id m)) (suc (ahead ls n)) zs (judged.ends b.id)))
          by_test true h = cc
          by_test false h = next (gets_number f subs dead sound judged wrong (pos_in b.id n) i k o d (pos_in b.id (ahead ls n)) w) more
    by_line n x xs l zs e at_l (by_entry z goes is entry) verdict needs more =
        let t = copy_is x.kind z is in
        subst (λ (kk : ItemKind). EntryCase n x xs zs kk) (sym t.is)
        (λ e' at' dies dead_zs. entry_line n t.code z.number t.target z.source x.origin x.loc xs zs entry.0 t.row entry.1 e' at' dies dead_zs more) e at_l
        (verdict ∙ goes) (ap (is_dead x.kind) needs ∙ goes)
    by_line n x xs l zs e at_l (by_phi z goes is) verdict needs more =
        let t = copy_is x.kind z is in
        subst (λ (kk : ItemKind). PhiCase n x xs zs z kk) (sym t.is)
        (λ e' at' dies dead_zs. phi_line n t.code t.target x.origin x.loc xs zs z t.own t.row e' at' dies dead_zs more) e at_l
        (verdict ∙ goes) (ap (is_dead x.kind) needs ∙ goes)

    become_all : (n : ℕ) (xs : List Item) → drop n b.items ≡ xs → BecomeAll dead_rule (c f subs dead sound judged wrong) b.id n xs
        (silenced_left (λ m. wrong (pos_in b.id m)) (ahead ls n) (drop (ahead ls n) (all_now ls)) (judged.ends b.id))
    become_all n [] e =
        subst (λ (ys : List Item). BecomeAll dead_rule (c f subs dead sound judged wrong) b.id n []
        (silenced_left (λ m. wrong (pos_in b.id m)) (ahead ls n) ys (judged.ends b.id)))
        (sym (past_here (all_off f subs dead).subs (judged.ends b.id) b.items ls lines n e)) over
    become_all n (x ∷ xs) e =
        let r = line_here (all_off f subs dead).subs (judged.ends b.id) b.items ls lines n x xs e in
        let rest = become_all (suc n) xs (drop_next b.items n x xs e) in
        let more : BecomeAll dead_rule (c f subs dead sound judged wrong) b.id (suc n) xs
        (silenced_left (λ m. wrong (pos_in b.id m)) (over_now r.line.now (ahead ls n)) r.rest (judged.ends b.id)) =
        subst (λ (k : ℕ). BecomeAll dead_rule (c f subs dead sound judged wrong) b.id (suc n) xs
        (silenced_left (λ m. wrong (pos_in b.id m)) k r.rest (judged.ends b.id))) r.next
        (subst (λ (ys : List Item). BecomeAll dead_rule (c f subs dead sound judged wrong) b.id (suc n) xs
        (silenced_left (λ m. wrong (pos_in b.id m)) (ahead ls (suc n)) ys (judged.ends b.id))) r.further rest) in
        subst (λ (ys : List Item). BecomeAll dead_rule (c f subs dead sound judged wrong) b.id n (x ∷ xs)
        (silenced_left (λ m. wrong (pos_in b.id m)) (ahead ls n) ys (judged.ends b.id))) (sym r.front)
        (by_line n x xs r.line r.rest e r.at r.is (ap (λ (ys : List Item). begins_dead ys (judged.ends b.id)) (stands_in n x xs e).1) r.same more)

    pub block_becomes : BecomeAll dead_rule (c f subs dead sound judged wrong) b.id 0 b.items
        (silenced_left (λ m. wrong (pos_in b.id m)) 0 (all_now ls) (judged.ends b.id))
    block_becomes =
        let z = ahead_zero ls in
        subst (λ (ys : List Item). BecomeAll dead_rule (c f subs dead sound judged wrong) b.id 0 b.items
        (silenced_left (λ m. wrong (pos_in b.id m)) 0 ys (judged.ends b.id))) (drop_zero (all_now ls))
        (subst (λ (k : ℕ). BecomeAll dead_rule (c f subs dead sound judged wrong) b.id 0 b.items
        (silenced_left (λ m. wrong (pos_in b.id m)) k (drop k (all_now ls)) (judged.ends b.id))) z (become_all 0 b.items (drop_zero b.items)))

  none_killed : (b : ℕ) → All (IsKillAt dead_rule (c f subs dead sound judged wrong) b) []
  none_killed b k d lt = absurd (omega (arith, lt))

  blocks_become : (n : ℕ) (bs cs : List Block) (mss : List (List Line)) → BlocksAre (all_off f subs dead).subs judged.ends bs mss cs →
      ((j : ℕ) (b : Block) → slice_get bs j ≡ Some b → slice_get f.blocks (n + j) ≡ Some b) →
      ((j : ℕ) (ls : List Line) → slice_get mss j ≡ Some ls → slice_get (all_lines dead f.blocks (begins_off f subs)) (n + j) ≡ Some ls) →
      BlocksBecome dead_rule (c f subs dead sound judged wrong) bs (map (taken wrong judged.ends) cs)
  blocks_become n bs cs mss no_blocks here here' = none
  blocks_become n (b ∷ bs) (d ∷ cs) (ls ∷ mss) (and_block id source_end items lines rest) here here' =
      block_stays [] (silenced_left (λ m. wrong (pos_in b.id m)) 0 (all_now ls) (judged.ends b.id)) id source_end
      (λ t. silenced_left (λ m. wrong (pos_in (id t) m)) 0 (items t) (judged.ends (id t))) refl (none_killed b.id)
      (block_becomes n b ls at at' lines)
      (blocks_become (suc n) bs cs mss rest (λ j e h. (let z : n + suc j ≡ suc n + j = omega arith in sym (ap (slice_get f.blocks) z) ∙ here (suc j) e h))
      (λ j ms h. (let z : n + suc j ≡ suc n + j = omega arith in sym (ap (slice_get (all_lines dead f.blocks (begins_off f subs))) z) ∙ here' (suc j)
      ms h))) where
        at : slice_get f.blocks n ≡ Some b
        at = let z : n + 0 ≡ n = omega arith in sym (ap (slice_get f.blocks) z) ∙ here 0 b refl

        at' : slice_get (all_lines dead f.blocks (begins_off f subs)) n ≡ Some ls
        at' = let z : n + 0 ≡ n = omega arith in sym (ap (slice_get (all_lines dead f.blocks (begins_off f subs))) z) ∙ here' 0 ls refl

  pub all_become : BlocksBecome dead_rule (c f subs dead sound judged wrong) f.blocks
      (map (taken wrong judged.ends) (function_off f subs dead).blocks)
  all_become =
      blocks_become 0 f.blocks (function_off f subs dead).blocks (all_lines dead f.blocks (begins_off f subs)) every
      (λ j b e. (let z : j ≡ 0 + j = omega arith in sym (ap (slice_get f.blocks) z) ∙ e))
      (λ j ls e. (let z : j ≡ 0 + j = omega arith in sym (ap (slice_get (all_lines dead f.blocks (begins_off f subs))) z) ∙ e))
