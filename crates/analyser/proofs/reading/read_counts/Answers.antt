use Rattle.std.proofs.Common.{take}
use Rattle.captures.specs.Views.{captured}
use Rattle.analyser.proofs.Light.{light_made}
use Rattle.analyser.proofs.reading.read_counts.Goals as goal

pub returns-clause-light : goal.returns-clause-light
returns-clause-light g c = light_made (captured c.args.capture.now) c.read_capture.result (λ k. take k c.read_capture.new.out) c.read_capture.ensures.near
