-- Glue: the content that the fields of a database have.
use Rattle.rrd_base.specs.Names.{Content, IsValid}
use Rattle.rrd_base.specs.declared.content.Content.TheInside.{Inside}

abbrev pub content_of : Inside → Content
content_of d = record {
  step = d.step;
  depth = d.depth;
  sources = d.sources.items;
  last = d.last;
  raws = d.raws.items;
  parts = d.preps.items;
  archives = d.archives;
}

abbrev pub IsValidContent : Inside → Type 0
IsValidContent d = IsValid (content_of d)
