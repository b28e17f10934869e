-- The report that the fields of a struct are.
use Rattle.report_run.specs.declared.report.RouteReport.TheInside as inside
use Rattle.report_run.specs.Report.{RouteReport}

abbrev pub report_inside : inside.Inside → RouteReport
report_inside r = record {
  uses = r.uses.items;
  figures = r.figures;
  nets = r.nets;
  types = r.types.items;
  channels = r.channels.items;
  over = r.over.items;
  overused = r.overused.items;
}
