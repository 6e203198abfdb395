-- The numbers of the arithmetic operations are 1 to 5.
use mathlib.Core.Path.{◌≡◌}
use Prim.Native.Nat.{ℕ, ◌≤◌}
use native.Mathlib.Omega.{arith}
use Rattle.meaning.specs.Requests.{operation_number}
use Rattle.operation_names.specs.Numbers.{asked_exact_of}
use Rattle.operation_names.specs.declared.names.Arithmetic.{Arithmetic}
use Rattle.operation_names.specs.declared.numbers.AskedExact.{AskedExact}

pub arithmetic_number : {n : ℕ} (asked : AskedExact) → n ≡ operation_number (asked_exact_of asked) → (1 ≤ n) × (n ≤ 5)
arithmetic_number AskedExact.Neg is = (omega arith, omega arith)
arithmetic_number (AskedExact.Two Arithmetic.Add) is = (omega arith, omega arith)
arithmetic_number (AskedExact.Two Arithmetic.Sub) is = (omega arith, omega arith)
arithmetic_number (AskedExact.Two Arithmetic.Mul) is = (omega arith, omega arith)
arithmetic_number (AskedExact.Two Arithmetic.Div) is = (omega arith, omega arith)
