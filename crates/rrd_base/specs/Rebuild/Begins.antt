-- Definition: the result for the header, the first record of a database.
use Rattle.std.specs.Prelude.{◌≡◌, IfErr, IfOk, Result}
use Rattle.rrd_base.specs.Names.{Filed, Header, IsHeader, begun}
use Rattle.rrd_base.specs.declared.rebuild.PieceFault.{PieceFault}
use Rattle.rrd_base.specs.declared.rebuild.header.Header.{Header as HeaderSaid}
use Rattle.rrd_base.specs.declared.rebuild.PieceFault.TheVariants.{Bad, OutOfMemory}

-- the header that was read or asked for, as the definitions have it
abbrev pub header_said : HeaderSaid → Header
header_said h = record {
  version = h.version;
  step = h.step;
  last = h.last;
  depth = h.depth;
  sources = h.sources;
  archives = h.archives;
  entries = h.entries;
}

pub record Begins (header : Header) (result : Result Filed PieceFault) : Type 0 where
  pub ok : IfOk result (λ r. IsHeader header × (r ≡ begun header))
  pub bad : IfErr result (λ e. e ≡ Bad → IsHeader header → ⊥)
  pub want : IfErr result (λ e. e ≡ OutOfMemory → IsHeader header)
