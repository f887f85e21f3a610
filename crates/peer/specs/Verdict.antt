-- 02, K3: "the verdict should come from a table of 256 verdicts, indexed by state less one, type and subtype".
-- Assumes nothing.
use Rattle.std.specs.Prelude.{ℕ}
use Rattle.octets.specs.Class.{classless}
use Rattle.octets.specs.Pick.{pick}
use Rattle.octets.specs.declared.class.FrameClass.{FrameClass}
use Rattle.peer.specs.Filter.{passes_of}
use Rattle.peer.specs.Settings.{ap}

-- What a verdict's number stands for: 0, the frame has no class; 1, it passes; 2, it does not. An access point's filter, which is a station's too.
unfoldable pub verdict_of : FrameClass → ℕ → ℕ
verdict_of k state = pick (classless k) 0 (pick (passes_of ap k state) 1 2)
