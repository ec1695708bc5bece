-- The registers that a function gives back are none of those that it may lose.
use Rattle.std.specs.List.{AllByRecursion, list_any}
use Rattle.std.proofs.Common.{◌≡◌, ℕ, false, List, Contains, refl, sym, ◌∙◌, nat_eq, true≢false}
use Rattle.std.proofs.lemmas.Bool.{eq-eqb}
use Rattle.std.proofs.lemmas.List.Elements.{All-from_recursion}
use Rattle.mir_func.specs.SoundFrame.{SAVED}
use Rattle.dwarf_line_table.proofs.Members.{passes}
use Rattle.frame_theorem.specs.Laws.{SparesKept}
use Rattle.linkable_command.specs.Linkable.{LOST}

absent : (xs : List ℕ) (r : ℕ) → list_any (nat_eq r) xs ≡ false → Contains xs r → ⊥
absent xs r none is = true≢false (sym (passes (nat_eq r) xs r is (eq-eqb r r refl)) ∙ none)

pub lost_spared : SparesKept LOST
lost_spared = All-from_recursion (λ r. Contains LOST r → ⊥) SAVED spared
  where
    spared : AllByRecursion (λ r. Contains LOST r → ⊥) SAVED
    spared = (
      absent LOST 1 refl,
      (
        absent LOST 8 refl,
        (
          absent LOST 9 refl,
          (
            absent LOST 18 refl,
            (
              absent LOST 19 refl,
              (
                absent LOST 20 refl,
                (
                  absent LOST 21 refl,
                  (
                    absent LOST 22 refl,
                    (
                      absent LOST 23 refl,
                      (
                        absent LOST 24 refl,
                        (absent LOST 25 refl, (absent LOST 26 refl, (absent LOST 27 refl, tt))),
                      ),
                    ),
                  ),
                ),
              ),
            ),
          ),
        ),
      ),
    )
