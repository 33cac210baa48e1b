-- A refusal is its number in the format's table, and 0 stands for none. Tests run in order; the first that applies decides.
use Rattle.std.specs.Prelude.{ℕ, zero, suc, Bool, true, false, ◌||◌, List, [], ◌∷◌}

infix 20 ◌⇒◌
infixr 10 ◌▹◌
-- refused with n exactly when the test holds
unfoldable pub ◌⇒◌ : Bool → ℕ → ℕ
true ⇒ n = n
false ⇒ n = 0

-- the first refusal of the two
unfoldable pub ◌▹◌ : ℕ → ℕ → ℕ
zero ▹ b = b
suc a ▹ b = suc a

-- what lent bytes are afterwards: new where there is no refusal, and a refusal writes nothing
unfoldable pub accepted : ℕ → List ℕ → List ℕ → List ℕ
accepted zero new old = new
accepted (suc n) new old = old

-- does the test hold of one of them?
unfoldable pub one_of : {A : Type 0} → (A → Bool) → List A → Bool
one_of p [] = false
one_of p (x ∷ xs) = p x || one_of p xs
