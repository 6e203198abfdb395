-- Whether two ends are the same, as a truth value that can be worked out.
use Rattle.std.specs.Prelude.{Bool, true, false, ◌+◌, ◌*◌, eqb}
use Rattle.meaning.specs.Sets.{End, at, unbounded}

abbrev pub same_by : End → End → Bool
same_by (at p) (at q) = eqb (p.up * q.over + q.down * p.over) (q.up * p.over + p.down * q.over)
same_by (at p) unbounded = false
same_by unbounded (at q) = false
same_by unbounded unbounded = true
