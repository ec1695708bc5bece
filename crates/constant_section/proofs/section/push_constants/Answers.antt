use Rattle.std.proofs.Common.{List}
use Rattle.mir_pool.specs.declared.constant.IntegerType.TheVariants.{Bits8}
use Rattle.mir_pool.specs.declared.constant.PoolConstant.{PoolConstant}
use Rattle.constant_section.specs.Section.{with_constants, places_behind}
use Rattle.constant_section.proofs.Places.{bytes_more, bytes_all, places_more, places_all}
use Rattle.constant_section.proofs.section.push_constants.Goals as goal

pub loop-constant-preserved : goal.loop-constant-preserved
loop-constant-preserved c =
    let cs : List PoolConstant = c.args.constants.now in
    let i = c.loop-constant.constant-index in
    let nothing : PoolConstant = record { id = 0; integer = Bits8; value = 0; alignment = 0 } in
    let made = c.in_ok-place.ensures.bytes in
    record {
      bytes = bytes_more cs i nothing c.loop-constant.bytes c.push_constant.new.bytes (with_constants c.args.bytes.now cs) c.loop-constant-test.true made
          c.loop-constant.invariant.bytes;
      places = places_more cs i nothing c.loop-constant.bytes c.push_constant.new.bytes c.loop-constant.places c.push.new.self
          (places_behind c.args.bytes.now cs) c.in_ok-place.place c.loop-constant-test.true made c.in_ok-place.ensures.place c.in_ok-push.ensures.ok
          c.loop-constant.invariant.places;
    }

pub returns-clause-bytes : goal.returns-clause-bytes
returns-clause-bytes c =
    bytes_all c.args.constants.now c.loop-constant.constant-index c.loop-constant.bytes (with_constants c.args.bytes.now c.args.constants.now)
    c.loop-constant-test.false c.loop-constant.invariant.bytes

pub returns-clause-places : goal.returns-clause-places
returns-clause-places c =
    places_all c.args.constants.now c.loop-constant.constant-index c.loop-constant.bytes c.loop-constant.places
    (places_behind c.args.bytes.now c.args.constants.now) c.loop-constant-test.false c.loop-constant.invariant.places
