-- Numbers below 2^32 have a product that fits.
use Rattle.std.proofs.Common.{◌/◌, ◌%◌, ◌≤◌, refl, mul-le-mul, arith}
use Rattle.pairs.specs.Keys.{word}
use Rattle.pairs.specs.Sifting.{place_of}
use Rattle.pairs.proofs.places.place_of.Goals as goal

pub overflow_mul-low : goal.overflow_mul-low
overflow_mul-low c =
    let h : c.args.x % word ≤ 4294967295 = omega arith in
    let k : c.args.lower ≤ 4294967295 = omega (arith, c.requires.0) in
    omega (arith, mul-le-mul h k)

pub overflow_mul-high : goal.overflow_mul-high
overflow_mul-high c =
    let h : c.args.x / word ≤ 4294967295 = omega (arith, c.ranges) in
    let k : c.args.upper ≤ 4294967295 = omega (arith, c.requires.1) in
    omega (arith, mul-le-mul h k)

pub returns : goal.returns
unfolding place_of
returns c = refl
