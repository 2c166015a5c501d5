-- `digest_with` meets its contract: the inner remainders change nothing modulo the prime, and keep the sum small.
use mathlib.Core.Path.{◌≡◌, ◌∙◌, ap, sym}
use Prim.Native.Nat.{ℕ, ◌+◌, ◌*◌, ◌/◌, ◌%◌}
use native.Mathlib.Nat.{add-mod-mod, add-mul-mod_self_left, div-add-mod}
use native.Mathlib.Omega.{arith}
use Rattle.digests.specs.Digest.{prime, digest_with}
use Rattle.digests.proofs.digest_with.Goals as goal

-- h is its remainder and p * (h / p), which k times is a multiple of p too
remainders : (h n k p : ℕ) → (h % p * k + n % p) % p ≡ (h * k + n) % p
remainders h n k p =
    add-mod-mod (h % p * k) n p
    ∙ sym (add-mul-mod_self_left (h % p * k + n) p (h / p * k))
    ∙ ap (λ (x : ℕ). x % p) (omega (arith, ap (λ (x : ℕ). x * k) (div-add-mod h p)))

pub returns : goal.returns
unfolding digest_with
returns c = remainders c.args.h c.args.n 131 prime
