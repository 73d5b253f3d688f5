use Rattle.readers.specs.Blocks.{rows}
use Rattle.reports.proofs.Readings.{read_due, read_data}
use Rattle.reports.proofs.bench.running.read_front.Goals as goal

pub returns : goal.returns
returns g c =
    let reading = g.R.Reader.reading c.args.reader.now in
    let before = rows c.args.soft.now c.args.bits.now c.args.out.now in
    let after = rows c.read_counts.new.soft c.read_counts.new.bits c.read_counts.new.out in
    record {
      due = read_due reading c.args.capture.now before c.requires c.read_counts.result after c.read_counts.ensures.value;
      front = read_data reading c.args.capture.now before c.requires (g.met.R.Reader.rules c.args.reader.now) c.read_counts.result after c.read_counts.ensures.value;
      light = c.read_counts.ensures.light;
    }
