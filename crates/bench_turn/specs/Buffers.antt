-- A turn on its two buffers: the input, at whose front bytes are held, and the output, at whose front the replies are written.
use Rattle.std.specs.Prelude.{Bool, true, false, ◌≡◌, List, ◌++◌, ℕ, ◌+◌, ◌*◌, ◌/◌, ◌≤◌, length, take, drop}
use Rattle.std.specs.declared.ops.ControlFlow.{ControlFlow}
use Rattle.std.specs.declared.ops.ControlFlow.TheVariants.{Continue, Break}
use Rattle.request_laws.specs.Chunk.{request_size, reply_size}
use Rattle.bench_run.specs.Limit.{most}
use Rattle.bench_run.specs.Turn.{Closes, ending_reply, ending_more, Turned, Turn}
use Rattle.bench_run.specs.declared.ending.Ending.{Ending}
use Rattle.bench_turn.specs.declared.one_turn.Run.{Run}
use Rattle.bench_turn.specs.declared.one_turn.TurnEnd.{TurnEnd}

-- The bytes l at the front of a buffer, and behind them what it had there.
abbrev pub fronted : (l buffer : List ℕ) → List ℕ
fronted l buffer = l ++ drop (length l) buffer

-- What a turn needs: its bytes are in the input, and the output has room for a reply to each request in them and for one more.
pub record TurnRoom (held arrived answered : ℕ) (input output : List ℕ) : Type 0 where
  pub few : answered ≤ most
  pub there : held + arrived ≤ length input
  pub room : reply_size * ((held + arrived) / request_size + 1) ≤ length output

-- How far a run has come, by whether another turn follows.
abbrev pub flow : (more : Bool) → Run → ControlFlow Run Run
flow true run = Continue run
flow false run = Break run

-- A turn on the bytes that are held and those that arrived. Nothing else in the buffers changes.
pub record TurnOn (held arrived answered : ℕ) (input output : List ℕ) (r : TurnEnd) (input' output' : List ℕ) : Type 0 where
  pub left : Turned
  pub turn : Turn (take held input) (take arrived (drop held input)) answered left
  pub writes : r.written ≡ length left.written
  pub follows : r.run ≡ flow left.more (record { held = length left.kept; answered = left.answered })
  pub input_is : input' ≡ fronted left.kept input
  pub output_is : output' ≡ fronted left.written output

-- The room that closing a turn needs, behind the replies that are written.
pub record ClosingRoom (answered written : ℕ) (output : List ℕ) : Type 0 where
  pub few : answered ≤ most
  pub room : written + reply_size ≤ length output

-- What closing a turn leaves.
pub record ClosedBy (arrived : ℕ) (run : Run) (written : ℕ) (output : List ℕ) (r : TurnEnd) (output' : List ℕ) : Type 0 where
  pub ending : Ending
  pub closes : Closes arrived run.held run.answered ending
  pub writes : r.written ≡ written + length (ending_reply ending)
  pub follows : r.run ≡ flow (ending_more ending) run
  pub output_is : output' ≡ take written output ++ (ending_reply ending ++ drop (written + length (ending_reply ending)) output)
