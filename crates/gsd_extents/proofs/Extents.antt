-- Laws of extents: what makes one of each kind good, and a good one is good where there is more room.
use Prim.Native.Nat.{ℕ, ◌+◌, ◌*◌, ◌-◌, ◌/◌, ◌%◌, ◌≤◌}
use mathlib.Core.Path.{◌≡◌}
use native.Mathlib.Omega.{arith}
use Rattle.gsd_extents.specs.declared.extent.Extent.{Extent}
use Rattle.gsd_extents.specs.Extents.{number, copied, row_data, name}
use Rattle.gsd_extents.specs.Exec.{Good}

-- Good extents, kind by kind

module _ {n m : ℕ} where
  pub good-number : (to k v : ℕ) → to % 8 ≡ 0 → to + 8 * k ≤ n → Good n m (number to k v)
  good-number to k v a h = record {
    aligned = a;
    room = h;
    order = omega arith;
    image = λ e. cc;
    sheet = λ e. cc;
    name = λ e. cc;
  }

  pub good-copied : (to k from until : ℕ) → to % 8 ≡ 0 → to + 8 * k ≤ n → from ≤ until → until ≤ n → Good n m (copied to k from until)
  good-copied to k from until a h o e = record {
    aligned = a;
    room = h;
    order = o;
    image = λ i. e;
    sheet = λ e. cc;
    name = λ e. cc;
  }

  pub good-data : (to from until : ℕ) → to % 8 ≡ 0 → to + 8 * ((until - from + 7) / 8) ≤ n → from ≤ until → until ≤ m → Good n m (row_data to from until)
  good-data to from until a h o e = record {
    aligned = a;
    room = h;
    order = o;
    image = λ e. cc;
    sheet = λ i. e;
    name = λ e. cc;
  }

  pub good-name : (at from until end : ℕ) → from ≤ until → until ≤ m → at + (until - from) ≤ end → end % 8 ≡ 0 → end ≤ n → Good n m (name at from until)
  good-name at from until end o e f g h = record {
    aligned = omega arith;
    room = omega arith;
    order = o;
    image = λ e. cc;
    sheet = λ e. cc;
    name = λ i. (e, omega arith);
  }

pub good_more : (n m n' m' : ℕ) (x : Extent) → n ≤ n' → m ≤ m' → Good n m x → Good n' m' x
good_more n m n' m' x a b g = record {
  aligned = g.aligned;
  room = omega (arith, g.room);
  order = g.order;
  image = λ e. omega (arith, g.image e);
  sheet = λ e. omega (arith, g.sheet e);
  name = λ e. omega (arith, g.name e);
}
