-- A file's refusal is never numbered 0, which is the number of what is done.
use mathlib.Core.Path.{◌≡◌}
use mathlib.Core.Logic.{⊎_elim}
use mathlib.Core.List.{List, ◌∷◌}
use Prim.Native.Nat.{ℕ, zero, suc, ◌≤◌}
use native.Mathlib.Omega.{arith}
use Rattle.paper.specs.Refusals.{bad_number, bad_cabinets, bad_unknowns, bad_records, too_many_parts, part_not_unknown, too_many_statements, no_such_cabinet, no_such_entry}
use Rattle.paper.specs.Tables.{Table}
use Rattle.paper.specs.Faults.{FirstFault, malformed, outside, later, FileFault, inside, left_over}
use Rattle.paper.specs.Numbers.{fault}
use Rattle.paper.specs.Files.{Form, end, next, ◌>>=◌, times, record_form, table_form, statement_form, count_form, file_form, read_file}
use Rattle.paper.proofs.NumberCodec.{number_refusals}
use Rattle.paper.proofs.FirstFault.{refused_is_first_fault}

-- a form whose refusals are all numbered from 1 on
data Numbered {A : Type 0} : Form A → Type 0 where
  n_end : {a : A} → Numbered (end a)
  n_next : {low below k : ℕ} {g : ℕ → Form A} → 1 ≤ k → ((n : ℕ) → Numbered (g n)) → Numbered (next low below k g)

bound : {A B : Type 0} {m : Form A} → Numbered m → (f : A → Form B) → ((a : A) → Numbered (f a)) → Numbered (m >>= f)
bound (n_end {a}) f h = h a
bound (n_next l g) f h = n_next l (λ n. bound (g n) f h)

many : {A : Type 0} (n : ℕ) {m : Form A} → Numbered m → Numbered (times n m)
many zero h = n_end
many (suc n) {m} h = bound h (λ a. times n m >>= λ l. end (a ∷ l)) (λ a. bound (many n h) (λ l. end (a ∷ l)) (λ l. n_end))

file_numbered : Numbered file_form
unfolding file_form
file_numbered =
    bound table (λ t. count_form >>= λ e. times e (statement_form t) >>= λ qs. end (record { table = t; statements = qs }))
    (λ t. n_next {k = too_many_statements} (omega arith) (λ e. bound (many e (statement t)) (λ qs. end (record { table = t; statements = qs })) (λ qs. n_end)))
  where
    plate : (v : ℕ) → Numbered (record_form v)
    plate v = n_next {k = bad_number} (omega arith) (λ s. n_next {k = too_many_parts} (omega arith) (λ c. bound (many c (n_next {k = part_not_unknown} (omega arith) (λ p. n_end))) (λ l. end (record { symbol = s; parts = l })) (λ l. n_end)))

    table : Numbered table_form
    table =
        n_next {k = bad_cabinets} (omega arith)
        (λ s. n_next {k = bad_unknowns} (omega arith) (λ v. n_next {k = bad_records} (omega arith) (λ r. bound (many r (plate v)) (λ l. end (record { cabinets = s; unknowns = v; records = l })) (λ l. n_end))))

    statement : (t : Table) → Numbered (statement_form t)
    statement t = n_next {k = no_such_cabinet} (omega arith) (λ c. n_next {k = no_such_entry} (omega arith) (λ a. n_next {k = no_such_entry} (omega arith) (λ b. n_end)))

first_numbered : {A : Type 0} {s : List ℕ} {m : Form A} {at k p : ℕ} → Numbered m → FirstFault s m at k p → 1 ≤ k
first_numbered {s = s} (n_next l g) (malformed {at = at} {j = j} e) =
    ⊎_elim (λ (h : j ≡ 1). omega arith) (λ (h : j ≡ 2). omega arith) (number_refusals s at e)
first_numbered n_end x = elim x [ ]
first_numbered (n_next l g) (outside e h) = l
first_numbered (n_next l g) (later {n = n} e a b f) = first_numbered (g n) f

pub refusal_not_zero : (s : List ℕ) (k p : ℕ) → read_file s ≡ fault k p → 1 ≤ k
refusal_not_zero s k p e = go ((refused_is_first_fault s k p).0 e)
  where
    go : {k p : ℕ} → FileFault s k p → 1 ≤ k
    go (inside f) = first_numbered file_numbered f
    go (left_over e h) = omega arith
