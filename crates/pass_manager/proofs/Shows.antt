-- What steps leave of what is shown, by what each says of itself: a pass needs one record here for each of its steps.
use Rattle.std.proofs.Common.{◌≡◌, ℕ, ◌<◌, List, [], ◌∷◌, sym, subst}
use Rattle.std.specs.Prelude.{All}
use Rattle.std.proofs.lemmas.List.Elements.{All-contains}
use Rattle.rv64_instr.specs.declared.place.Place.{Place}
use Rattle.mir_func.specs.declared.item.Item.{Item}
use Rattle.mir_func.specs.declared.position.Pos.{Pos}
use Rattle.mir_func.specs.Function.{Function}
use Rattle.mir_func.specs.Sound.{items_of}
use Rattle.mir_func.specs.Strip.{stripped}
use Rattle.pass_trait.specs.Change.{Change}
use Rattle.pass_trait.specs.declared.loss.Loss.{Loss}
use Rattle.pass_trait.specs.Steps.{PassStep, KeepsStep, KeepsSteps}
use Rattle.pass_manager.specs.Shown.{IsGiven, KeepsShown}
use Rattle.pass_manager.proofs.Becoming.{WasShown, blocks_shown}
use Rattle.pass_manager.proofs.Row.{shown_none, shown_then}

-- a step keeps the name, renames no register x0, salvages no value in x0 or a constant, and kills only with a location of a mark of the part
pub record Shows (s : PassStep) : Type 0 where
  pub name : (f g : Function) → s.code f g → g.name ≡ f.name
  pub renames : (c : Change) (r now : ℕ) → s.debug.renames c r now → 0 < now
  pub salvages : (c : Change) (at : Pos) (p : Place) → s.debug.salvages c at p → IsGiven p
  pub kills : (c : Change) (b : ℕ) (ks : List Item) → s.debug.kills c b ks → All (WasShown s.debug c) ks

abbrev pub EachShows : List PassStep → Type 0
EachShows [] = Unit {0}
EachShows (s ∷ steps) = Shows s × EachShows steps

step_shown : (s : PassStep) → Shows s → (c : Change) (losses : List Loss) → KeepsStep s c losses → KeepsShown c.old c.new
step_shown s shows c losses k =
    let all : All (WasShown s.debug c) (items_of c.new.blocks) =
    blocks_shown s.debug c (shows.renames c) (shows.salvages c) (shows.kills c) (λ i is. is) k.items.blocks in
    record {
      name = shows.name (stripped c.old) (stripped c.new) k.code;
      marks = λ v l (i, is, mark). (All-contains (WasShown s.debug c) (items_of c.new.blocks) i all is).marks v l mark;
      places = λ p (i, is, phi). (All-contains (WasShown s.debug c) (items_of c.new.blocks) i all is).places p phi;
    }

pub steps_shown : (steps : List PassStep) → EachShows steps → (c : Change) (losses : List Loss) → KeepsSteps steps c losses → KeepsShown c.old c.new
steps_shown [] shows c losses (same, subs, none) = subst (λ (g : Function). KeepsShown c.old g) (sym same) (shown_none c.old)
steps_shown (s ∷ steps) shows c losses (f, subs, here, later, k, rest, e) =
    shown_then c.old f c.new (step_shown s shows.0 (record c { new = f; new_subs = subs }) here k)
    (steps_shown steps shows.1 (record c { old = f; old_subs = subs }) later rest)
