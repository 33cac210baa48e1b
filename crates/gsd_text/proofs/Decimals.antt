-- std's digits of a number of 64 bits are the listing's.
use Prim.Native.Nat.{ℕ, ◌+◌, ◌%◌, ◌^◌, ◌<◌}
use mathlib.Core.Path.{◌≡◌, ◌∙◌, ap}
use mathlib.Core.List.{[], ◌∷◌, ◌++◌}
use Rattle.std.specs.Fmt as Fmt
use Rattle.std.proofs.lemmas.Fmt.{decimal_by_steps}
use Rattle.gsd_format.specs.Listing.{decimal}
use Rattle.gsd_format.proofs.Listing.{decimal-small, decimal-more}

pub listed-decimal : (n : ℕ) → n < 2 ^ 64 → decimal n ≡ Fmt.decimal n
listed-decimal =
    decimal_by_steps (λ n ds. decimal n ≡ ds) decimal-small (λ n ds h e. decimal-more n h ∙ ap (λ s. s ++ (48 + n % 10) ∷ []) e)
