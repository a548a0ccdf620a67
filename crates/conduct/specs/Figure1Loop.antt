-- Figure 1 of document 001 in its own words: main, computeMoves and executePhase of n processes, over counts alone.
-- It knows nothing of racks, tables or cards. Assumes nothing: these are definitions.
use Rattle.std.specs.Prelude.{Bool, ℕ, zero, suc, ◌+◌, ◌-◌, min, ltb}
use Rattle.counting.specs.Count.{sum}

-- what is left of free before turn i of lines 11 to 13, figure 1's r, on a process with in = `due`: line 10, and line 13 after each turn
unfoldable pub left : ℕ → (ℕ → ℕ) → ℕ → ℕ
left free due zero = free
left free due (suc i) = let now = left free due i in now - min now (due i)

-- line 12: recv[i] ← min{r, in[i]}
unfoldable pub recv : ℕ → (ℕ → ℕ) → ℕ → ℕ
recv free due i = min (left free due i) (due i)

-- the variables of every process p at line 4: free, out[i], and in[i] under the name `due`
pub record State : Type 0 where
  pub free : ℕ → ℕ
  pub out : ℕ → ℕ → ℕ
  pub due : ℕ → ℕ → ℕ

-- the input, and line 2: in[i] on p is out[p] on i
unfoldable pub alltoall : (ℕ → ℕ) → (ℕ → ℕ → ℕ) → State
alltoall free out = record { free = free; out = out; due = λ p i. out i p }

-- the amounts of a phase on every process p: recv[i] and send[i]
pub record Amounts : Type 0 where
  pub recv : ℕ → ℕ → ℕ
  pub send : ℕ → ℕ → ℕ

-- computeMoves: recv[i] on p by lines 10 to 13, and send[i] on p is recv[p] on i, as lines 14 to 18 have i tell p
unfoldable pub compute_moves : State → Amounts
compute_moves s = record { recv = λ p i. recv (s.free p) (s.due p) i; send = λ p i. recv (s.free i) (s.due i) p }

-- executePhase: in[i] falls by recv[i] (line 23), out[i] by send[i] (line 26), and free ← free + Σ(send[i] - recv[i]) (line 27)
unfoldable pub execute_phase : ℕ → Amounts → State → State
execute_phase n a s =
    record {
      free = λ p. s.free p + sum n (a.send p) - sum n (a.recv p);
      out = λ p i. s.out p i - a.send p i;
      due = λ p i. s.due p i - a.recv p i;
    }

-- the state after k rounds of lines 5 and 6
unfoldable pub rounds : ℕ → ℕ → State → State
rounds n zero s = s
rounds n (suc k) s = let t = rounds n k s in execute_phase n (compute_moves t) t

-- line 4's Σ(out[i] + in[i]), of all processes
unfoldable pub remaining : ℕ → State → ℕ
remaining n s = sum n (λ p. sum n (λ i. s.out p i + s.due p i))

-- line 4's test: it holds on some process; where it does not, a process sends and receives nothing in a round
unfoldable pub loop_goes_on : ℕ → State → Bool
loop_goes_on n s = ltb 0 (remaining n s)

-- equation (1), free' of process p: free - Σ in[i] + Σ out[i]
unfoldable pub extra : ℕ → State → ℕ → ℕ
extra n s p = s.free p + sum n (s.out p) - sum n (s.due p)
