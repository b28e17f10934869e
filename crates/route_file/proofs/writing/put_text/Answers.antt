use Rattle.std.proofs.Common.{◌≡◌, ap, ◌∙◌}
use Rattle.rr_graph.specs.Fabric.{Fabric}
use Rattle.text_output.proofs.Printing.{prints_then}
use Rattle.route_file.specs.TextLine.{bytes_on}
use Rattle.route_file.specs.Text.{text_lines, text_of}
use Rattle.route_file.proofs.writing.put_text.Goals as goal

pub returns : goal.returns
unfolding text_of text_lines bytes_on
returns g c =
    let lists : c.deref.result.now ≡ c.args.routing.now = cc in
    let nx : c.nx.result ≡ c.args.problem.now.device.nx = c.nx.ensures.entry ∙ ap (λ (f : Fabric). f.nx) c.device-device.ensures.device in
    let ny : c.ny.result ≡ c.args.problem.now.device.ny = c.ny.ensures.entry ∙ ap (λ (f : Fabric). f.ny) c.device-device.ensures.device in
    let size = rw (nx, ny) at c.put_size.ensures in
    let nets = rw (lists, c.device-device.ensures.device) at c.put_nets.ensures in
    prints_then size (prints_then c.put_blank.ensures (prints_then (prints_then c.push.ensures c.push-2.ensures) nets))
