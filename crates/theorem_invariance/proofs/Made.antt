-- Steps whose rules for code have one result, and see code alone, make code of code alone.
use Rattle.std.proofs.Common.{List, []}
use Rattle.pass_trait.specs.Code.{HasOneResult, SeesCodeAlone}
use Rattle.pass_trait.specs.Steps.{PassStep, EachCode, MakeCodeAlone}
use Rattle.pass_trait.proofs.Composition.{same_in_turn as same, alike_in_turn as alike, made_in_turn as made}

pub make_code_alone : (steps : List PassStep) → EachCode HasOneResult steps → EachCode SeesCodeAlone steps → MakeCodeAlone steps
make_code_alone steps one sees = record {
  made = made steps;
  alike = λ c d lost lost' k k' h. alike steps sees _ _ _ _ h (made steps c lost k) (made steps d lost' k');
  same = λ c d lost lost' k k' h. same steps one _ _ _ _ h (made steps c lost k) (made steps d lost' k');
}
