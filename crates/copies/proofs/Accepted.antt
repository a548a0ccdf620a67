-- What acceptance gives the copy list and the shuffle: chains, and which cards are away. Assumes nothing.
use mathlib.Core.Path.{◌≡◌}
use mathlib.Core.List.{List}
use Prim.Native.Nat.{ℕ}
use Rattle.racks.specs.Numbers.{some_away}
use Rattle.racks.specs.Job.{racks_of}
use Rattle.racks.specs.declared.Job.{Job}
use Rattle.tables.specs.parts.Tables.{Open}
use Rattle.factors.specs.parts.Chains.{Chained}
use Rattle.copies.specs.parts.Writes.{some_away_by}
use Rattle.factors.proofs.Chains.{chained}
use Rattle.copies.proofs.AwayBy.{some-away_by}

module _ {job : Job} {places racking : List ℕ} (o : Open job places racking) where
  -- the cards form shifts and cycles
  pub open-chained : Chained places
  open-chained = chained o.legal o.sound.small

  -- the cards that are away by the racking are away
  pub open-away : some_away_by racking places ≡ some_away (racks_of job) places
  open-away = some-away_by (racks_of job) racking places o.filled o.legal
