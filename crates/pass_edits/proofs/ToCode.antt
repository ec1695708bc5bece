-- A copy loses its number to the code that gave its value.
use Rattle.std.proofs.Common.{◌≡◌, ◌⊎◌, inl, inr, ℕ, suc, ◌+◌, ◌≤◌, List, [], ◌∷◌, ◌++◌, get_or, drop, All, Option, Some, None}
use Rattle.std.proofs.Common.{true, false, not, slice_get, refl, sym, ap, ◌∙◌, subst, arith}
use Rattle.std.specs.List.{list_any}
use Rattle.std.specs.Prelude.{is_some, nat_eq, nat_lt, ◌^◌}
use Rattle.std.proofs.lemmas.List.{append_assoc}
use Rattle.std.proofs.lemmas.List.Elements.{All-append, All-cons, All-head, All-tail}
use Rattle.rv64_instr.specs.declared.place.Place.TheVariants.{Register}
use Rattle.rv64_instr.specs.Instruction.{Instruction}
use Rattle.rv64_instr.specs.Row.{Moves, row_of}
use Rattle.rv64_instr.specs.LocationEffects.{is_call}
use Rattle.mir_func.specs.declared.debug_substitution.DebugSubstitution.{DebugSubstitution}
use Rattle.mir_func.specs.declared.position.Origin.{Origin}
use Rattle.mir_func.specs.declared.location.Loc.{Loc}
use Rattle.mir_func.specs.declared.block.Block.{Block}
use Rattle.mir_func.specs.declared.item.Item.{Item}
use Rattle.mir_func.specs.declared.item.ItemKind.{ItemKind}
use Rattle.mir_func.specs.declared.item.ItemKind.TheVariants.{Code, Mark, Phi}
use Rattle.mir_func.specs.declared.variable.MarkValue.TheVariants.{Nothing, Constant, At, Pair}
use Rattle.mir_func.specs.declared.exit.Exit.TheVariants.{Onward}
use Rattle.mir_func.specs.Exits.{exit_of}
use Rattle.mir_func.specs.Function.{Function}
use Rattle.mir_func.specs.Graph.{Program, program_of}
use Rattle.mir_func.specs.Resolve.{is_pair, entry_of, resolve}
use Rattle.mir_func.specs.Sound.{items_of, LeavesPointer, IsSound, NumbersOnce}
use Rattle.pass_salvage.specs.sem_mir.Step.{defined}
use Rattle.pass_salvage.specs.sem_mir.Live.{KindDefines}
use Rattle.pass_salvage.specs.pass_trait.Causes.{defines}
use Rattle.pass_salvage.specs.pass_trait.Rule.{item, first_operand}
use Rattle.pass_salvage.proofs.mir_substitution.Entries.{is_pair-same}
use Rattle.pass_salvage.specs.Salvage.{numbered_at, entry_for}
use Rattle.pass_salvage.specs.SalvageAction.{has_entry, or_fresh, asks_for, is_just}
use Rattle.pass_salvage.proofs.Chosen.{IsEntered}
use Rattle.pass_salvage.proofs.Kin.{row_itself, code_kin}
use Rattle.pass_salvage.proofs.Edits.{Edits, Edited, pair}
use Rattle.pass_salvage.proofs.NumberOff.{Side, Outside, Inside, Off, outside, opens, inside, closes, off_edits, IsOther, AsksOutside, AsksInside}
use Rattle.pass_edits.proofs.MovedNumbers.{number_to_code}
use Rattle.pass_edits.specs.Edits.{stays, same_code}
use Rattle.pass_edits.proofs.Numbers.{IsUnlike, AreUnlike, all_first, all_second, HasNoOther}
use Rattle.pass_edits.proofs.Numbers.{keeps, fewer_same, fewer_behind, fewer_append, once_gains}
use Rattle.pass_edits.proofs.Onward.{above_onward, goes_nowhere}
use Rattle.pass_edits.proofs.Sound.{edited_sound}
use Rattle.pass_edits.proofs.Around.{with_block, stays_items, stays_above, stays_blocks, around, edited_same, edited_above, edited_append, edited_around}
use Rattle.pass_edits.proofs.Others.{BlocksUnlike, flat_unlike, Others, around_one, others_of, at_item, block_ends, once_around}
use Rattle.pass_edits.proofs.Copies.{IsPlain, plain_copy}
use Rattle.pass_edits.proofs.Under.{KindUnder, AreUnder, BlocksUnder, EntryUnder, under_unlike, no_entry, resolve_under}
use Rattle.pass_edits.proofs.Found.{split_at, IsNoDefinition, last_behind, first_defines, any_none, last_two, not_is}
use Rattle.pass_edits.proofs.Loose.{Step}

-- ---- tests

no_number : (x : Option DebugSubstitution) → is_some x ≡ false → x ≡ None
no_number None e = refl
no_number (Some y) e = cc

-- ---- all numbers are less than the fresh one

pub record AllUnder (b : ℕ) (fs : List Block) (xs : List Item) (x : ItemKind) (ys : List Item) (gs : List Block) (subs : List DebugSubstitution) : Type 0 where
  pub above : BlocksUnder b fs
  pub up : AreUnder b xs
  pub here : KindUnder b x
  pub down : AreUnder b ys
  pub behind : BlocksUnder b gs
  pub entries : All (EntryUnder b) subs

module _ (f : Function) (above : List Block) (id source_end : ℕ) (behind : List Block) (fresh k n o rd s : ℕ) (up : List Item) (j : Instruction)
    (own : Option ℕ)
    (p : Origin) (q : Loc) (between : List Item) (i : Instruction) (po : Origin) (lo : Loc) (down : List Item) (subs : List DebugSubstitution) where
  abbrev fn : List Item → Function
  fn items = with_block f above id source_end items behind

  -- the code that gives the value, before and after, and the copy
  abbrev giver : Item
  giver = item (Code j own) p q

  abbrev given : Item
  given = item (Code j (Some n)) p q

  abbrev copy : Item
  copy = item (Code i (Some k)) po lo

  abbrev bare : Item
  bare = item (Code i None) po lo

  abbrev old : Function
  old = fn ((up ++ giver ∷ between) ++ copy ∷ down)

  abbrev new : Function
  new = fn ((up ++ given ∷ between) ++ bare ∷ down)

  abbrev subs' : List DebugSubstitution
  subs' = subs ++ entry_for k n o ∷ []

  abbrev fp : Program
  fp = program_of false old.blocks (resolve subs)

  abbrev gp : Program
  gp = program_of false new.blocks (resolve subs')

  -- the fresh number gives nothing yet
  abbrev Free : ℕ → Type 0
  Free m = (own ≡ None) × (m ≡ n)

  abbrev Leaves : Side → Side → Item → Item → Type 0
  Leaves = Off fp gp refl refl k n o s Free

  module _ (sound : IsSound old) (row : row_of i ≡ Moves (suc rd) s) (none : entry_of subs (first_operand k) ≡ None) (number : n ≡ or_fresh fresh own)
      (gives : defined (is_call (row_of j)) (slice_get j.operands o) ≡ Some s) (ends : has_entry subs own o ≡ false)
      (asks : All (λ (x : Item). asks_for subs k x.kind ≡ false) between) (keeps_s : All (IsNoDefinition s) between)
      (under : AllUnder fresh above (up ++ giver ∷ between) (Code i (Some k)) down behind subs) where
    plain : IsPlain i rd s
    plain = plain_copy i rd s row (at_item f above id source_end behind (λ z. LeavesPointer z.kind) (up ++ giver ∷ between) copy down sound.pointer)

    abbrev U : Item → Type 0
    U x = KindUnder fresh x.kind

    under_up : AreUnder fresh up
    under_up = all_first U up (giver ∷ between) under.up

    under_between : AreUnder fresh between
    under_between = all_second U (giver ∷ []) between (all_second U up (giver ∷ between) under.up)

    -- ---- nothing but the copy has its number

    of_copy : Others k above (up ++ giver ∷ between) down behind
    of_copy = others_of f above id source_end behind k (up ++ giver ∷ between) copy down sound.numbers refl

    -- ---- nothing but the code that gives the value has its number

    moved : (up ++ giver ∷ between) ++ copy ∷ down ≡ up ++ giver ∷ (between ++ copy ∷ down)
    moved = append_assoc up (giver ∷ between) (copy ∷ down)

    of_giver : Others n above up (between ++ copy ∷ down) behind
    of_giver = by_own own refl number (λ m is. others_of f above id source_end behind m up giver (between ++ copy ∷ down)
        (subst (λ (xs : List Item). NumbersOnce (items_of (fn xs).blocks)) moved sound.numbers) is) where
          less : (xs : List Item) → fresh ≤ n → AreUnder fresh xs → AreUnlike n xs
          less xs le h y d lt = under_unlike fresh n le (get_or xs y d).kind (h y d lt)

          blocks_less : (bs : List Block) → fresh ≤ n → BlocksUnder fresh bs → BlocksUnlike n bs
          blocks_less bs le h y d lt = less (get_or bs y d).items le (h y d lt)

          by_own : (z : Option ℕ) → own ≡ z → n ≡ or_fresh fresh z → ((m : ℕ) → own ≡ Some m → Others m above up (between ++ copy ∷ down) behind) →
              Others n above up (between ++ copy ∷ down) behind
          by_own (Some m) is same have = subst (λ (w : ℕ). Others w above up (between ++ copy ∷ down) behind) (sym same) (have m is)
          by_own None is same have =
              let le : fresh ≤ n = omega (arith, same) in
              record {
                above = blocks_less above le under.above;
                up = less up le under_up;
                down = less (between ++ copy ∷ down) le (All-append U between (copy ∷ down) under_between (All-cons U copy down under.here under.down));
                behind = blocks_less behind le under.behind;
              }

    abbrev N : Item → Type 0
    N x = IsUnlike n x.kind

    abbrev K : Item → Type 0
    K x = IsUnlike k x.kind

    between_n : AreUnlike n between
    between_n = all_first N between (copy ∷ down) of_giver.down

    copy_n : IsUnlike n (Code i (Some k))
    copy_n = All-head N copy down (all_second N between (copy ∷ down) of_giver.down)

    down_n : AreUnlike n down
    down_n = All-tail N copy down (all_second N between (copy ∷ down) of_giver.down)

    up_k : AreUnlike k up
    up_k = all_first K up (giver ∷ between) of_copy.up

    between_k : AreUnlike k between
    between_k = all_second K (giver ∷ []) between (all_second K up (giver ∷ between) of_copy.up)

    apart : k ≡ n → ⊥
    apart same = copy_n k refl (sym same)

    -- ---- what stays beside them

    other_of : (x : ItemKind) → IsUnlike k x → IsUnlike n x → IsOther fp gp refl refl k n o s Free x
    other_of x a b m e = (a m e, b m e)

    asks_out : (x : ItemKind) → KindUnder fresh x → AsksOutside fp gp refl refl k n o s Free x
    asks_out (Code z m) h = tt
    asks_out (Phi z m) h = tt
    asks_out (Mark v Nothing) h = tt
    asks_out (Mark v (Constant z)) h = tt
    asks_out (Mark v (At r)) h = tt
    asks_out (Mark v (Pair t)) h =
        λ r is free. (let lt = resolve_under fresh subs t r under.entries h is in
        let a = number ∙ ap (or_fresh fresh) free.0 in
        let b = free.1 in
        omega (arith, lt, a, b))

    asks_in : (x : ItemKind) → asks_for subs k x ≡ false → AsksInside fp gp refl refl k n o s Free x
    asks_in (Code z m) h = tt
    asks_in (Phi z m) h = tt
    asks_in (Mark v Nothing) h = tt
    asks_in (Mark v (Constant z)) h = tt
    asks_in (Mark v (At r)) h = tt
    asks_in (Mark v (Pair t)) h =
        λ is. (let bad : true ≡ false = sym (is_pair-same (first_operand k)) ∙ ap (is_just (first_operand k)) (sym is) ∙ h in cc)

    keeps_in : (x : ItemKind) → defines (Register s) x ≡ false → KindDefines x (Register s) → ⊥
    keeps_in (Code z m) h d = let bad : true ≡ false = sym d ∙ h in cc
    keeps_in (Mark v m) h d = d
    keeps_in (Phi z m) h d = d

    outsiders : (xs : List Item) → AreUnlike k xs → AreUnlike n xs → AreUnder fresh xs → All (λ (x : Item). Leaves Outside Outside x x) xs
    outsiders xs a b u y d lt =
        outside (other_of (get_or xs y d).kind (a y d lt) (b y d lt)) (asks_out (get_or xs y d).kind (u y d lt))

    block_outsiders : (bs : List Block) → BlocksUnlike k bs → BlocksUnlike n bs → BlocksUnder fresh bs →
        All (λ (c : Block). All (λ (x : Item). Leaves Outside Outside x x) c.items) bs
    block_outsiders bs a b u y d lt = outsiders (get_or bs y d).items (a y d lt) (b y d lt) (u y d lt)

    on : All (λ (x : Item). exit_of x.kind ≡ Onward) (up ++ giver ∷ between)
    on = above_onward (up ++ giver ∷ between) copy down (suc rd, s, row) (block_ends f above id source_end behind
        ((up ++ giver ∷ between) ++ copy ∷ down) sound)

    on_rest : All (λ (x : Item). exit_of x.kind ≡ Onward) (giver ∷ between)
    on_rest = all_second (λ (x : Item). exit_of x.kind ≡ Onward) up (giver ∷ between) on

    insiders : All (λ (x : Item). Leaves Inside Inside x x) between
    insiders y d lt =
        let x = get_or between y d in
        inside (other_of x.kind (between_k y d lt) (between_n y d lt)) (asks_out x.kind (under_between y d lt)) (asks_in x.kind (asks y d lt))
        (keeps_in x.kind (keeps_s y d lt))
        (λ c e t go. goes_nowhere fp x.kind c (All-tail (λ (z : Item). exit_of z.kind ≡ Onward) giver between on_rest y d lt) t e go)

    opened : ((own ≡ Some n) × (Free n → ⊥)) ⊎ ((own ≡ None) × Free n)
    opened = by_own own refl number where
      by_own : (z : Option ℕ) → own ≡ z → n ≡ or_fresh fresh z → ((own ≡ Some n) × (Free n → ⊥)) ⊎ ((own ≡ None) × Free n)
      by_own (Some m) is same = inl (is ∙ ap Some (sym same), λ w. (let bad : ◌≡◌ {A = Option ℕ} (Some m) None = sym is ∙ w.0 in cc))
      by_own None is same = inr (is, (is, refl))

    opening : Leaves Outside Inside giver given
    opening = opens opened gives (λ c e t go. goes_nowhere fp (Code j own) c (All-head (λ (z : Item). exit_of z.kind ≡ Onward) giver between on_rest) t e go)

    -- ---- numbers

    no_other : HasNoOther copy bare
    no_other = record { number = λ m e. cc; code = λ m e. cc }

    once_new : NumbersOnce (items_of new.blocks)
    once_new = by_own own refl number where
      first : NumbersOnce (items_of (fn ((up ++ giver ∷ between) ++ bare ∷ down)).blocks)
      first =
          once_around f above id source_end behind ((up ++ giver ∷ between) ++ copy ∷ down) ((up ++ giver ∷ between) ++ bare ∷ down)
          (fewer_behind (up ++ giver ∷ between) (copy ∷ down) (bare ∷ down) (keeps no_other (fewer_same down))) sound.numbers

      own_kept : (m : ℕ) → own ≡ Some m → n ≡ m → HasNoOther giver given
      own_kept m is same = record {
        number = λ t e. is ∙ ap Some (sym same) ∙ e;
        code = λ t e. is ∙ ap Some (sym same) ∙ e;
      }

      by_own : (z : Option ℕ) → own ≡ z → n ≡ or_fresh fresh z → NumbersOnce (items_of new.blocks)
      by_own (Some m) is same =
          once_around f above id source_end behind ((up ++ giver ∷ between) ++ bare ∷ down) ((up ++ given ∷ between) ++ bare ∷ down)
          (fewer_append (fewer_behind up (giver ∷ between) (given ∷ between) (keeps (own_kept m is same) (fewer_same between))) (fewer_same (bare ∷ down)))
          first
      by_own None is same =
          subst NumbersOnce (sym (shape given)) (once_gains (items_of above ++ up) giver given ((between ++ bare ∷ down) ++ items_of behind) n refl
          (All-append N (items_of above) up (flat_unlike n above of_giver.above) of_giver.up)
          (All-append N (between ++ bare ∷ down) (items_of behind)
          (All-append N between (bare ∷ down) between_n (All-cons N bare down (λ m e h. cc) down_n)) (flat_unlike n behind of_giver.behind))
          (subst NumbersOnce (shape giver) first)) where
            shape : (x : Item) → items_of (fn ((up ++ x ∷ between) ++ bare ∷ down)).blocks ≡
                (items_of above ++ up) ++ x ∷ ((between ++ bare ∷ down) ++ items_of behind)
            shape x =
                ap (λ (xs : List Item). items_of (fn xs).blocks) (append_assoc up (x ∷ between) (bare ∷ down)) ∙
                around_one f above id source_end behind up x (between ++ bare ∷ down)

    -- ---- the step

    sound' : IsSound new
    sound' =
        edited_sound old new sound refl refl
        (edited_around above id source_end ((up ++ giver ∷ between) ++ copy ∷ down) ((up ++ given ∷ between) ++ bare ∷ down) behind
        (edited_append (edited_above up (giver ∷ between) (given ∷ between) (stays refl same_code (edited_same between)))
        (stays refl same_code (edited_same down)))) once_new

    target_none : entry_of subs (record { number = n; operand = o }) ≡ None
    target_none = by_own own refl number ends where
      by_own : (z : Option ℕ) → own ≡ z → n ≡ or_fresh fresh z → has_entry subs z o ≡ false → entry_of subs (record { number = n; operand = o }) ≡ None
      by_own (Some m) is same h = ap (λ (w : ℕ). entry_of subs (record { number = w; operand = o })) same ∙ no_number
          (entry_of subs (record { number = m; operand = o })) h
      by_own None is same h = no_entry fresh n o (omega (arith, same)) subs under.entries

    abbrev E : Edits
    E = off_edits fp gp refl refl k n o s Free

    pub code_step : Step old subs new subs'
    code_step = record {
      sound = sound';
      follows = number_to_code Free old new subs k n o s sound sound' refl none target_none apart plain.source
          (around E above id source_end ((up ++ giver ∷ between) ++ copy ∷ down) ((up ++ given ∷ between) ++ bare ∷ down)
          (stays_blocks E (λ m. tt) above (block_outsiders above of_copy.above of_giver.above under.above))
          (subst (λ (xs : List Item). Edited E Outside xs ((up ++ given ∷ between) ++ bare ∷ down)) (sym moved)
          (subst (λ (ys : List Item). Edited E Outside (up ++ giver ∷ (between ++ copy ∷ down)) ys) (sym (append_assoc up (given ∷ between) (bare ∷ down)))
          (stays_above E Outside up (giver ∷ (between ++ copy ∷ down)) (given ∷ (between ++ bare ∷ down)) (outsiders up up_k of_giver.up under_up)
          (pair refl (code_kin (row_itself (row_of j)) refl) opening
          (stays_above E Inside between (copy ∷ down) (bare ∷ down) insiders
          (pair refl (code_kin (row_itself (row_of i)) refl) (closes row plain.first plain.target)
          (stays_items E Outside down tt (outsiders down of_copy.down down_n under.down))))))))
          (stays_blocks E (λ m. tt) behind (block_outsiders behind of_copy.behind of_giver.behind under.behind)));
    }

-- by the way that was chosen
pub to_code : (f : Function) (above : List Block) (id source_end : ℕ) (behind : List Block) (fresh k n o rd s d : ℕ) (done : List Item) (i : Instruction)
    (po : Origin)
    (lo : Loc) (down : List Item) (subs : List DebugSubstitution) →
    IsSound (with_block f above id source_end (done ++ item (Code i (Some k)) po lo ∷ down) behind) →
    row_of i ≡ Moves (suc rd) s → IsEntered [] subs fresh k s done d o n → AllUnder fresh above done (Code i (Some k)) down behind subs →
    Step (with_block f above id source_end (done ++ item (Code i (Some k)) po lo ∷ down) behind) subs
    (with_block f above id source_end (numbered_at d n done ++ item (Code i None) po lo ∷ down) behind) (subs ++ entry_for k n o ∷ [])
to_code f above id source_end behind fresh k n o rd s d done i po lo down subs sound row e under =
    let giver : Item = item (Code e.i e.own) e.origin e.loc in
    let given : Item = item (Code e.i (Some n)) e.origin e.loc in
    let w = split_at done d n giver e.stands in
    let tests = last_two (nat_lt o (2 ^ 32)) (not (list_any (nat_eq d) [])) (not (has_entry subs e.own o))
    (not (list_any (λ x. asks_for subs k x.kind) (drop (suc d) done))) e.may in
    let step : Step (with_block f above id source_end ((w.above ++ giver ∷ w.behind) ++ item (Code i (Some k)) po lo ∷ down) behind) subs
    (with_block f above id source_end ((w.above ++ given ∷ w.behind) ++ item (Code i None) po lo ∷ down) behind) (subs ++ entry_for k n o ∷ []) =
    code_step f above id source_end behind fresh k n o rd s w.above e.i e.own e.origin e.loc w.behind i po lo down subs
    (subst (λ (xs : List Item). IsSound (with_block f above id source_end (xs ++ item (Code i (Some k)) po lo ∷ down) behind)) w.whole sound) row
    (no_number (entry_of subs (first_operand k)) e.none) e.number (first_defines (is_call (row_of e.i)) s e.i.operands o e.operand)
    (not_is (has_entry subs e.own o) tests.0)
    (subst (All (λ (x : Item). asks_for subs k x.kind ≡ false)) w.rest
    (any_none (λ (x : Item). asks_for subs k x.kind) (drop (suc d) done) (not_is (list_any (λ x. asks_for subs k x.kind) (drop (suc d) done)) tests.1)))
    (subst (All (IsNoDefinition s)) w.rest (last_behind s done d e.last))
    (record {
      above = under.above;
      up = subst (AreUnder fresh) w.whole under.up;
      here = under.here;
      down = under.down;
      behind = under.behind;
      entries = under.entries;
    }) in
    subst (λ (xs : List Item). Step (with_block f above id source_end (xs ++ item (Code i (Some k)) po lo ∷ down) behind) subs
    (with_block f above id source_end (numbered_at d n done ++ item (Code i None) po lo ∷ down) behind) (subs ++ entry_for k n o ∷ [])) (sym w.whole)
    (subst (λ (ys : List Item). Step (with_block f above id source_end ((w.above ++ giver ∷ w.behind) ++ item (Code i (Some k)) po lo ∷ down) behind) subs
    (with_block f above id source_end (ys ++ item (Code i None) po lo ∷ down) behind) (subs ++ entry_for k n o ∷ [])) (sym w.numbered) step)
