-- Products of numbers of 16, 8 and 8 bits fit 32 bits. Assumes nothing.
use Prim.Native.Nat.{ℕ, ◌*◌, ◌≤◌, ◌<◌}
use native.Mathlib.Nat.{mul-le-mul}
use native.Mathlib.Omega.{arith}

pub two_few : {x n : ℕ} → x < 65536 → n < 256 → x * n ≤ 65535 * 255
two_few {x} {n} hx hn = mul-le-mul {n₂ = 65535} {m₂ = 255} (omega arith) (omega arith)

pub three_few : {x n d : ℕ} → x < 65536 → n < 256 → d < 256 → x * n * d < 4294967296
three_few {x} {n} {d} hx hn hd =
    let few : x * n * d ≤ 65535 * 255 * 255 = mul-le-mul {n₂ = 65535 * 255} {m₂ = 255} (two_few hx hn) (omega arith) in
    omega arith
