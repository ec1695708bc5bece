-- The rule's choice sees code alone.
use Rattle.std.proofs.Common.{◌≡◌, ℕ, List, [], ◌∷◌, filter, take, length, Option, Some, None, Bool, false, cond, not, ◌&&◌, ◌||◌, nat_lt}
use Rattle.std.proofs.Common.{refl, sym, ap, ◌∙◌}
use Rattle.std.specs.List.{list_any}
use Rattle.std.proofs.lemmas.List.Concat.{flat_map-cons}
use Rattle.std.proofs.lemmas.List.Folds.{list_any-append}
use Rattle.rv64_instr.specs.Instruction.{Instruction}
use Rattle.mir_func.specs.declared.block.Block.{Block}
use Rattle.mir_func.specs.declared.item.Item.{Item}
use Rattle.mir_func.specs.declared.item.ItemKind.{ItemKind}
use Rattle.mir_func.specs.declared.item.ItemKind.TheVariants.{Code, Mark, Phi}
use Rattle.mir_func.specs.declared.location.Loc.{Loc}
use Rattle.mir_func.specs.declared.position.Origin.{Origin}
use Rattle.mir_func.specs.Function.{Function}
use Rattle.mir_func.specs.Sound.{items_of}
use Rattle.mir_func.specs.Strip.{stripped_items, stripped_block, stripped_blocks, stripped}
use Rattle.sem_mir.specs.InitialState.{first_of}
use Rattle.pass_trait.specs.declared.loss.Reason.TheVariants.{NoScratch, CallNamed, EntryLoop}
use Rattle.pass_trait.specs.Causes.{names, names_implicitly, is_named, scratch_of}
use Rattle.pass_trait.specs.Rule.{item}
use Rattle.spill_select.specs.spill_rule.Choice.{is_added, is_bound, goes, is_looped, is_free, candidates, room, next_slot, homes_from, homes_of}
use Rattle.spill_select.specs.spill_rule.Choice.{first_scratch, second_scratch, spilling_of}
use Rattle.spill_proof.specs.WholeLaws.{ChoiceIsBare}

-- a mark or a phi
abbrev pub IsDebug : ItemKind → Type 0
IsDebug (Code i k) = ⊥
IsDebug (Mark v m) = Unit {0}
IsDebug (Phi p k) = Unit {0}

-- a test of code, which sees no number and passes no debug item
pub record IsOfCode (test : ItemKind → Origin → Bool) : Type 0 where
  pub code : (i : Instruction) (k : Option ℕ) (o : Origin) → test (Code i None) o ≡ test (Code i k) o
  pub debug : (k : ItemKind) (o : Origin) → IsDebug k → test k o ≡ false

module _ (test : ItemKind → Origin → Bool) (of : IsOfCode test) where
  abbrev passes : Item → Bool
  passes i = test i.kind i.origin

  any_kind : (k : ItemKind) (o : Origin) (l : Loc) (xs : List Item) → list_any passes (stripped_items xs) ≡ list_any passes xs →
      list_any passes (stripped_items (item k o l ∷ xs)) ≡ list_any passes (item k o l ∷ xs)
  any_kind (Code i n) o l xs h = let e = of.code i n o in λ j. e j || h j
  any_kind (Mark v m) o l xs h = h ∙ ap (λ (b : Bool). b || list_any passes xs) (sym (of.debug (Mark v m) o tt))
  any_kind (Phi p n) o l xs h = h ∙ ap (λ (b : Bool). b || list_any passes xs) (sym (of.debug (Phi p n) o tt))

  any_items : (xs : List Item) → list_any passes (stripped_items xs) ≡ list_any passes xs
  any_items [] = refl
  any_items (x ∷ xs) = any_kind x.kind x.origin x.loc xs (any_items xs)

  pub any_blocks : (bs : List Block) → list_any passes (items_of (stripped_blocks bs)) ≡ list_any passes (items_of bs)
  any_blocks [] = refl
  any_blocks (b ∷ bs) =
      let e = any_items b.items in
      let es = any_blocks bs in
      ap (list_any passes) (flat_map-cons (λ (c : Block). c.items) (stripped_block b) (stripped_blocks bs)) ∙
      list_any-append passes (stripped_items b.items) (items_of (stripped_blocks bs)) ∙ (λ i. e i || es i) ∙
      sym (list_any-append passes b.items (items_of bs)) ∙ ap (list_any passes) (sym (flat_map-cons (λ (c : Block). c.items) b bs))

no_names : (r : ℕ) (k : ItemKind) → IsDebug k → names r k ≡ false
no_names r (Code i n) h = absurd h
no_names r (Mark v m) h = refl
no_names r (Phi p n) h = refl

no_implicit_names : (r : ℕ) (k : ItemKind) → IsDebug k → names_implicitly r k ≡ false
no_implicit_names r (Code i n) h = absurd h
no_implicit_names r (Mark v m) h = refl
no_implicit_names r (Phi p n) h = refl

no_goes : (n : ℕ) (k : ItemKind) → IsDebug k → goes n k ≡ false
no_goes n (Code i m) h = absurd h
no_goes n (Mark v m) h = refl
no_goes n (Phi p m) h = refl

module _ (f : Function) where
  pub named_bare : (r : ℕ) → is_named (stripped f) r ≡ is_named f r
  named_bare r = any_blocks (λ k o. names r k) (record { code = λ i k o. refl; debug = λ k o h. no_names r k h }) f.blocks

  bound_bare : (r : ℕ) → is_bound (stripped f) r ≡ is_bound f r
  bound_bare r = any_blocks (λ k o. names_implicitly r k || (names r k && is_added o)) (record {
    code = λ i k o. refl;
    debug = λ k o h. (let a = no_implicit_names r k h in let b = no_names r k h in λ j. a j || (b j && is_added o));
  }) f.blocks

  first_bare : (bs : List Block) → first_of (stripped_blocks bs) ≡ first_of bs
  first_bare [] = refl
  first_bare (b ∷ bs) = refl

  looped_bare : is_looped (stripped f) ≡ is_looped f
  looped_bare =
      ap (λ (n : ℕ). list_any (λ (i : Item). goes n i.kind) (items_of (stripped_blocks f.blocks))) (first_bare f.blocks) ∙
      any_blocks (λ k o. goes (first_of f.blocks) k) (record { code = λ i k o. refl; debug = λ k o h. no_goes (first_of f.blocks) k h }) f.blocks

  pub scratch_bare : scratch_of (stripped f) ≡ scratch_of f
  scratch_bare i = take 2 (filter (λ (r : ℕ). not (named_bare r i)) (5 ∷ 6 ∷ 7 ∷ 28 ∷ 29 ∷ 30 ∷ 31 ∷ []))

  module _ (reserve : List ℕ) (live : ℕ → Bool) where
    candidates_bare : candidates reserve live (stripped f) ≡ candidates reserve live f
    candidates_bare i =
        filter (λ (r : ℕ). named_bare r i && is_free (cond (nat_lt (length (scratch_bare i)) 2) (Some NoScratch) (cond (bound_bare r i) (Some CallNamed)
        (cond (live r && looped_bare i) (Some EntryLoop) None)))) reserve

    homes_bare : homes_of reserve live (stripped f) ≡ homes_of reserve live f
    homes_bare i = homes_from (next_slot f.slots) (take (room f) (candidates_bare i))

    spilling_bare : spilling_of reserve live (stripped f) ≡ spilling_of reserve live f
    spilling_bare i = record {
      first = first_scratch (scratch_bare i);
      second = second_scratch (scratch_bare i);
      homes = homes_bare i;
    }

pub choice_is_bare : ChoiceIsBare
choice_is_bare reserve live f = spilling_bare f reserve live
